-- The requests of messages.
use Rattle.std.proofs.Common.{◌≡◌, ℕ, suc, ◌+◌, ◌<◌, List, [], ◌∷◌, ◌++◌, length, take, get_or, refl, ap, sym, ◌∙◌, arith, append-nil, Option, Some, None, true}
use Rattle.std.proofs.Math.Seq.{take-suc}
use Rattle.std.proofs.lemmas.List.{map-append}
use Rattle.std.specs.Option.{is_some}
use Rattle.login_base.specs.declared.ids.ConnId.{ConnId}
use Rattle.login_model.specs.declared.event.Request.{Request}
use Rattle.bus_message.specs.declared.cutter.Cut.{Cut}
use Rattle.bus_message.specs.declared.fault.Malformed.{Malformed}
use Rattle.bus_message.specs.declared.message.Message.{Message}
use Rattle.bus_message.specs.Cutting.{Cutting, cut}
use Rattle.bus_message.specs.Feeding.{AreMessages, Feeds, HasFed, Stream, kept}
use Rattle.bus_message.proofs.Pieces.{malformed_for_good}
use Rattle.wire_calls.specs.Reading.{request_of, requests_of}
use Rattle.wire_calls.proofs.Standing.{may_stand}
use Rattle.login_office.specs.Hearing.{MayCome}
use Rattle.login_office.specs.inner.Reading.{Reads}

-- one message more
pub one_more : (who : ConnId) (now after : List Request) (n : ℕ) (ms : List Message) (m : Message) (r : Request)
    → now ≡ requests_of who (take n ms) → n < length ms → m ≡ get_or ms n m → r ≡ request_of who m → after ≡ now ++ r ∷ []
    → after ≡ requests_of who (take (n + 1) ms)
one_more who now after n ms m r so less item is pushed =
    let sum : n + 1 ≡ suc n = omega arith in
    let one : take (n + 1) ms ≡ take n ms ++ m ∷ [] =
    ap (λ (k : ℕ). take k ms) sum ∙ take-suc ms n m less ∙ ap (λ (x : Message). take n ms ++ x ∷ []) (sym item) in
    pushed ∙ ap (λ (rs : List Request). rs ++ r ∷ []) so ∙ ap (λ (x : Request). requests_of who (take n ms) ++ x ∷ []) is
    ∙ sym (map-append (request_of who) (take n ms) (m ∷ [])) ∙ sym (ap (requests_of who) one)

-- each may come next
pub may_come : (who : ConnId) (ms : List Message) → AreMessages ms → MayCome who (requests_of who ms)
may_come who [] h = tt
may_come who (m ∷ ms) ((bytes, is), more) = ((refl, may_stand who bytes m is), may_come who ms more)

-- what was fed is read
pub reads : (who : ConnId) (old new : Stream) (bytes : List ℕ) (c : Cut) (rs : List Request) → Feeds old bytes new c
    → rs ≡ requests_of who c.messages → Reads who old bytes new rs
reads who old new bytes c rs f is = record {
  fed = f.fed;
  requests = λ text h.
      ap (requests_of who) (f.messages text h) ∙ map-append (request_of who) (cut text).messages c.messages
      ∙ ap (λ (x : List Request). requests_of who (cut text).messages ++ x) (sym is);
}

-- behind a fault nothing is
pub reads_bad : (who : ConnId) (old : Stream) (bytes : List ℕ) (rs : List Request) (place : Malformed) → old.malformed ≡ Some place
    → rs ≡ [] → Reads who old bytes old rs
reads_bad who old bytes rs place bad none =
    let whole : (text : List ℕ) → HasFed old text → cut (text ++ bytes) ≡ cut text =
    λ text h. malformed_for_good text bytes place (sym (ap (λ (s : Stream). s.malformed) h.state) ∙ bad) in
    record {
      fed = λ text h. record { state = h.state ∙ sym (ap kept (whole text h)) };
      requests = λ text h. ap (λ (c : Cutting). requests_of who c.messages) (whole text h) ∙ sym (append-nil (requests_of who (cut text).messages))
          ∙ ap (λ (x : List Request). requests_of who (cut text).messages ++ x) (sym none);
    }

pub is_there : (m : Option Malformed) → is_some m ≡ true → (place : Malformed) × (m ≡ Some place)
is_there None e = absurd (let never : ⊥ = cc in never)
is_there (Some place) e = (place, refl)
