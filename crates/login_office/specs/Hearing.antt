-- A link that is heard in pieces.
use Rattle.std.specs.Prelude.{ℕ, ◌≡◌, ◌+◌, ◌&&◌, not, Bool, false, if◌then◌else◌, List, [], ◌∷◌, ◌++◌, Option, Some, None, Result, Ok, Err}
use Rattle.std.specs.List.{AllByRecursion}
use Rattle.login_base.specs.declared.ids.ConnId.{ConnId}
use Rattle.login_base.specs.declared.ids.Uid.{Uid}
use Rattle.login_base.specs.declared.memory.NoMemory.{NoMemory}
use Rattle.login_model.specs.declared.event.Request.{Request}
use Rattle.bus_auth.specs.Hearing as handshake
use Rattle.bus_auth.specs.Standing.{Handshake}
use Rattle.bus_message.specs.Feeding.{HasFed, Stream}
use Rattle.wire_calls.specs.Laws.{MayStand}
use Rattle.wire_out.specs.Places.{Place}
use Rattle.login_office.specs.Links.{behind_begin, calls, end_heard, is_begun, replies}
use Rattle.login_office.specs.declared.end.LinkEnd.{LinkEnd}
use Rattle.login_office.specs.declared.teller.HeardPiece.{HeardPiece}

-- what a teller keeps: whose link it is; how far its handshake is, with the user and the GUID; the stream of its
-- messages; and its place in its mail
pub record TellerState : Type 0 where
  pub who : ConnId
  pub auth : Handshake
  pub stream : Stream
  pub place : Place

-- whose link it is, with which user and GUID
pub record IsLink (teller : TellerState) (c : ConnId) (user : Uid) (server : List ℕ) : Type 0 where
  pub who : teller.who ≡ c
  pub uid : teller.auth.uid ≡ user
  pub guid : teller.auth.guid ≡ server

-- what was heard so far, all pieces joined, is this text
pub record HasHeard (teller : TellerState) (text : List ℕ) : Type 0 where
  pub greeted : handshake.HasHeard teller.auth text
  pub fed : HasFed teller.stream (behind_begin teller.auth.uid teller.auth.guid text)

-- the link, and its place in its mail, are as before
pub record KeepsLink (old new : TellerState) : Type 0 where
  pub who : new.who ≡ old.who
  pub uid : new.auth.uid ≡ old.auth.uid
  pub guid : new.auth.guid ≡ old.auth.guid
  pub place : new.place ≡ old.place

-- what a piece led to: it was heard behind all that was heard before, and what was heard is what it brought about
pub record Hears (old : TellerState) (piece : List ℕ) (new : TellerState) (told : HeardPiece) : Type 0 where
  pub heard : (text : List ℕ) → HasHeard old text → HasHeard new (text ++ piece)
  pub replies : (text : List ℕ) → HasHeard old text
      → replies old.auth.uid old.auth.guid (text ++ piece) ≡ replies old.auth.uid old.auth.guid text ++ told.replies
  -- the client begins with this piece, and with no other
  pub begins : (text : List ℕ) → HasHeard old text
      → told.begins ≡ (is_begun old.auth.uid old.auth.guid (text ++ piece) && not (is_begun old.auth.uid old.auth.guid text))
  -- each call once, and in order
  pub calls : (text : List ℕ) → HasHeard old text
      → calls old.who old.auth.uid old.auth.guid (text ++ piece) ≡ calls old.who old.auth.uid old.auth.guid text ++ told.calls
  pub end : (text : List ℕ) → HasHeard old text → told.end ≡ end_heard old.auth.uid old.auth.guid (text ++ piece)

-- each call is one of the link's connection, and may come next in a journal in which that is connected and that has no
-- stop
abbrev pub MayCome : ConnId → List Request → Type 0
MayCome c rs = AllByRecursion (λ (r : Request). (r.who ≡ c) × MayStand r) rs

-- its link has ended so: what was heard shows it
pub record HasEnded (teller : TellerState) (end : LinkEnd) : Type 0 where
  pub text : List ℕ
  pub heard : HasHeard teller text
  pub shown : end_heard teller.auth.uid teller.auth.guid text ≡ Some end

-- the answer of a link that has ended
abbrev pub IsEnded : Result HeardPiece NoMemory → LinkEnd → Type 0
IsEnded (Ok heard) end = (heard.replies ≡ []) × (heard.begins ≡ false) × (heard.calls ≡ []) × (heard.end ≡ Some end)
IsEnded (Err e) end = ⊥

-- how often something was told
abbrev pub times : Bool → ℕ
times told = if told then 1 else 0

-- a teller that is new or was fed these pieces, whatever mail was fetched between them, with all that it replied, how
-- often it told that the client begins, all calls, and the end that it told last
pub data WasFed : TellerState → List (List ℕ) → List ℕ → ℕ → List Request → Option LinkEnd → Type 0 where
  new : {teller : TellerState} → HasHeard teller [] → WasFed teller [] [] 0 [] None
  kept : {old new : TellerState} {pieces : List (List ℕ)} {replies : List ℕ} {begins : ℕ} {calls : List Request} {end : Option LinkEnd}
      → WasFed old pieces replies begins calls end → new.who ≡ old.who → new.auth ≡ old.auth → new.stream ≡ old.stream
      → WasFed new pieces replies begins calls end
  fed : {old new : TellerState} {pieces : List (List ℕ)} {piece replies : List ℕ} {begins : ℕ} {calls : List Request} {end : Option LinkEnd} {heard : HeardPiece}
      → WasFed old pieces replies begins calls end → Hears old piece new heard → KeepsLink old new
      → WasFed new (pieces ++ piece ∷ []) (replies ++ heard.replies) (begins + times heard.begins) (calls ++ heard.calls) heard.end
