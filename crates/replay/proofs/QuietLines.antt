-- A line of a link that makes nothing: behind the stop, and of a link that has ended.
use Rattle.std.proofs.Common.{◌≡◌, ℕ, ◌&&◌, not, Bool, true, false, List, ◌++◌, refl, ap, sym, ◌∙◌, subst, Option, Some, None}
use Rattle.std.specs.Option.{is_some}
use Rattle.bus_auth.specs.Greeting.{Greeting, State, WaitingForNul, Talking, Begun, Ended, greet}
use Rattle.login_base.specs.declared.ids.ConnId.{ConnId}
use Rattle.login_base.specs.declared.ids.Uid.{Uid}
use Rattle.login_model.specs.Legal.{trail_of}
use Rattle.login_model.specs.Where.{is_connected}
use Rattle.login_model.specs.declared.mark.Entry.{Entry}
use Rattle.login_model.specs.declared.setup.Setup.{Setup}
use Rattle.login_office.proofs.Begun.{begun_on}
use Rattle.login_office.proofs.Histories.{ended_for_good}
use Rattle.login_office.specs.Links.{end_heard, has_begun, is_begun, malformed, replies}
use Rattle.login_office.specs.declared.end.LinkEnd.{LinkEnd}
use Rattle.login_office.specs.declared.end.LinkEnd.TheVariants as end
use Rattle.login_office.specs.declared.end.Unbegun.TheVariants.{HungUp}
use Rattle.replay.specs.Links.{begins, end_by, heard, is_hung_up, link_end, link_user, shown_or, was_let_in}
use Rattle.replay.specs.Played.{Played, played_lines, journal_of}
use Rattle.replay.proofs.LinkStanding.{LinkStands, malformed-end}
use Rattle.replay.proofs.OwnLines.{EndAt}

-- what is replied in the handshake of a link that has begun stays
pub begun-replies : (u : Uid) (guid text more : List ℕ) → is_begun u guid text ≡ true → replies u guid (text ++ more) ≡ replies u guid text
begun-replies u guid text more e = by (greet u guid text).state refl e
  where
    by : (s : State) → (greet u guid text).state ≡ s → has_begun s ≡ true → replies u guid (text ++ more) ≡ replies u guid text
    by WaitingForNul is h = absurd (let k : false ≡ true = h in cc)
    by (Talking talk l) is h = absurd (let k : false ≡ true = h in cc)
    by (Begun rest) is h = ap (λ (g : Greeting). g.replies) (begun_on u guid text more rest is)
    by (Ended ending) is h = absurd (let k : false ≡ true = h in cc)

pub shown-some : (e : Option LinkEnd) (at_end x : LinkEnd) → shown_or e at_end false ≡ Some x → e ≡ Some x
shown-some (Some e) at_end x h = h
shown-some None at_end x h = absurd (let k : None ≡ Some x = h in cc)

-- a link that has ended is not connected, and more bytes do not let it begin, nor are they replied to
pub record HasEnded (U : Setup) (J : List Entry) (c : ConnId) (u : Uid) (X more : List ℕ) : Type 0 where
  pub out : is_connected (trail_of J) c ≡ false
  pub begins_not : begins U u X (X ++ more) ≡ false
  pub replies_stay : replies u U.guid (X ++ more) ≡ replies u U.guid X

and-not-self : (a b : Bool) → a ≡ b → a && not b ≡ false
and-not-self true b e = ap not (sym e)
and-not-self false b e = refl

pub and-zero : (b : Bool) → b && false ≡ false
and-zero true = refl
and-zero false = refl

pub ended-so : (U : Setup) (J : List Entry) (c : ConnId) (u : Uid) (X more : List ℕ) (bo lo : Bool) (x : LinkEnd) → LinkStands U X false J c u → is_begun u U.guid X ≡ bo → was_let_in c J ≡ lo
    → EndAt bo lo (end_heard u U.guid X) (end.NotBegun HungUp) false ≡ Some x → HasEnded U J c u X more
ended-so U J c u X more false lo x s b l e =
    let h = ended_for_good c u U.guid X more x (shown-some (end_heard u U.guid X) (end.NotBegun HungUp) x e) in
    record {
      out = s.connected ∙ ap (λ (z : Bool). z && (was_let_in c J && (not (is_some (malformed u U.guid X)) && not false))) b;
      begins_not = and-not-self (is_begun u U.guid (X ++ more)) (is_begun u U.guid X) h.begins;
      replies_stay = h.replies;
    }
ended-so U J c u X more true false x s b l e = record {
  out = s.connected ∙ ((λ i. b i && (l i && (not (is_some (malformed u U.guid X)) && not false))));
  begins_not = ap (λ (z : Bool). is_begun u U.guid (X ++ more) && not z) b ∙ and-zero (is_begun u U.guid (X ++ more));
  replies_stay = begun-replies u U.guid X more b;
}
ended-so U J c u X more true true x s b l e =
    let m : is_some (malformed u U.guid X) ≡ true = malformed-end u U.guid X b ∙ ap is_some (shown-some (end_heard u U.guid X) end.Closed x e) in
    record {
      out = s.connected ∙ ((λ i. b i && (l i && (not (m i) && not false))));
      begins_not = ap (λ (z : Bool). is_begun u U.guid (X ++ more) && not z) b ∙ and-zero (is_begun u U.guid (X ++ more));
      replies_stay = begun-replies u U.guid X more b;
    }

-- the same of a link that has ended, as its lines say
pub link-ended : (U : Setup) (played : List Played) (c : ConnId) (u : Uid) (more : List ℕ) (x : LinkEnd) → LinkStands U (heard (played_lines played) c) (is_hung_up (played_lines played) c) (journal_of played) c u
    → link_user (played_lines played) c ≡ Some u → is_hung_up (played_lines played) c ≡ false → link_end U played c ≡ Some x → HasEnded U (journal_of played) c u (heard (played_lines played) c) more
unfolding link_end
link-ended U played c u more x s user still e =
    let X = heard (played_lines played) c in
    let J = journal_of played in
    ended-so U J c u X more (is_begun u U.guid X) (was_let_in c J) x (subst (λ (h : Bool). LinkStands U X h J c u) still s) refl refl
    ((λ k. end_by U J c (sym user k) X (sym still k)) ∙ e)
