-- Which connections were connected once: that goes on being so, and no fact names another.
use Rattle.std.proofs.Common.{◌≡◌, ◌||◌, Bool, true, false, cond, Option, Some, None, List, [], ◌∷◌, refl, sym, ap, subst, ◌∙◌, inl, inr}
use Rattle.std.specs.Prelude.{IfSome}
use Rattle.login_base.specs.declared.ids.ConnId.{ConnId}
use Rattle.login_model.specs.declared.event.Event.{Event}
use Rattle.login_model.specs.declared.event.Event.TheVariants.{Call as Calls}
use Rattle.login_model.specs.declared.mark.Entry.{Entry}
use Rattle.login_model.specs.Legal.{IsPlaced, trail_of}
use Rattle.login_model.specs.declared.fact.Fact.{Fact}
use Rattle.login_model.specs.declared.fact.Fact.TheVariants as fact
use Rattle.login_model.specs.declared.fact.Owner.TheVariants as owner
use Rattle.login_model.specs.declared.fact.Key.{Key}
use Rattle.login_model.specs.declared.fact.Key.TheVariants as key
use Rattle.login_model.specs.declared.mark.Mark.TheVariants.{Set, Say}
use Rattle.login_model.specs.declared.mark.Whom.{Whom}
use Rattle.login_model.specs.declared.mark.Notice.{Notice}
use Rattle.login_model.specs.declared.session.Phase.TheVariants.{Closing, Gone}
use Rattle.login_model.specs.Facts.{is_connected_fact}
use Rattle.login_model.specs.Procedure.{in_phase}
use Rattle.login_model.specs.Same.{same_fact, same_key}
use Rattle.std.specs.Str.{bytes_eq}
use Rattle.login_model.specs.Start.{start_fact, seat0}
use Rattle.login_model.specs.Trail.{Trail, put, value, was_set}
use Rattle.login_model.specs.Where.{is_connected}
use Rattle.login_model.proofs.Keys.{test}
use Rattle.login_table.specs.Appended.{IsPlain}
use Rattle.login_laws.proofs.Carried.{Carried}
use Rattle.login_laws.proofs.Keying.{unset-value}
use Rattle.login_facts.specs.Dues.{CallerIsKnown, AllNamesKnown, NamesKnown, WasConnected, named_in}
use Rattle.login_facts.specs.Facts.{Tables, TablesStand}

-- what is so of one thing that there may be is so of another
pub some-weaker : {A : Type 0} (P Q : A → Type 0) (o : Option A) → ((a : A) → P a → Q a) → IfSome o P → IfSome o Q
some-weaker P Q None f p = tt
some-weaker P Q (Some a) f p = f a p

-- ---- a setting stays

or-right : (a b : Bool) → b ≡ true → (a || b) ≡ true
or-right true b e = refl
or-right false b e = e

pub set-more : (j : Key) (x : Fact) (t : Trail) (k : Key) → was_set t k ≡ true → was_set (Set j x ∷ t) k ≡ true
unfolding was_set
set-more j x t k e = or-right (same_key j k) (was_set t k) e

pub say-more : (w : Whom) (n : Notice) (t : Trail) (k : Key) → was_set t k ≡ true → was_set (Say w n ∷ t) k ≡ true
unfolding was_set
say-more w n t k e = e

pub put-more : (j : Key) (x : Fact) (t : Trail) (k : Key) → was_set t k ≡ true → was_set (put j x t) k ≡ true
unfolding put
put-more j x t k e = by (same_fact (value t j) x)
  where
    by : (b : Bool) → was_set (cond b t (Set j x ∷ t)) k ≡ true
    by true = e
    by false = set-more j x t k e

-- carried along all procedures: a key that was set was set behind them
abbrev pub known : Key → Carried
known k = record {
  R = λ t u. was_set t k ≡ true → was_set u k ≡ true;
  refl = λ t e. e;
  trans = λ t u v p q e. q (p e);
  put = λ j x t i e. put-more j x t k e;
  say = λ w n t e. say-more w n t k e;
  closing = λ s t u o p e. put-more (key.Sess s) (in_phase Closing (value u (key.Sess s))) u k (p e);
  gone = λ s t u p e. put-more (key.Sess s) (in_phase Gone (value u (key.Sess s))) u k (p e);
}

-- who is connected was
pub connected-known : (t : Trail) (c : ConnId) → is_connected t c ≡ true → WasConnected t c
connected-known t c e = elim (test (was_set t (key.Conn c))) [
  | inl y ↦ y
  | inr n ↦ (let z : false ≡ true = ap is_connected_fact (sym (unset-value (key.Conn c) t n)) ∙ e in cc)
]

-- so whoever asks was
pub caller-known : (before : List Entry) (e : Event) → IsPlaced before e → CallerIsKnown e (trail_of before)
caller-known before (Calls q) p = connected-known (trail_of before) q.who p.0.0
caller-known before _ p = tt

-- ---- whom facts name

named-none : (x : Fact) (t : Trail) → named_in x ≡ None → NamesKnown x t
named-none x t e = subst (λ (o : Option ConnId). IfSome o (WasConnected t)) (sym e) tt

start-names : (k : Key) → named_in (start_fact k) ≡ None
start-names (key.Seat name) = by (bytes_eq name seat0)
  where
    by : (b : Bool) → named_in (cond b fact.Present fact.Absent) ≡ None
    by true = refl
    by false = refl
start-names _ = refl

-- whom a fact names by the table of connections, it names by all marks
pub named-there : (f : Tables) (t : Trail) (x : Fact) → TablesStand f t → NamesKnown x f.controls → NamesKnown x t
named-there f t x s = some-weaker (WasConnected f.controls) (WasConnected t) (named_in x) (λ c e. sym (s.keys (key.Conn c)) ∙ e)

pub named-here : (f : Tables) (t : Trail) (x : Fact) → TablesStand f t → NamesKnown x t → NamesKnown x f.controls
named-here f t x s = some-weaker (WasConnected t) (WasConnected f.controls) (named_in x) (λ c e. s.keys (key.Conn c) ∙ e)

-- a plain fact names nobody
pub plain-known : (x : Fact) (t : Trail) → IsPlain x → NamesKnown x t
plain-known fact.Absent t p = tt
plain-known (fact.Flag b) t p = tt
plain-known (fact.Number n) t p = tt
plain-known (fact.Handle h) t p = tt
plain-known (fact.Owned (owner.Device c s d)) t p = tt
plain-known (fact.Operation o) t p = tt
plain-known _ t p = absurd p

pub known-none : AllNamesKnown []
unfolding value
known-none k = named-none (start_fact k) [] (start-names k)

pub known-say : (w : Whom) (n : Notice) (t : Trail) → AllNamesKnown t → AllNamesKnown (Say w n ∷ t)
unfolding value
known-say w n t h k = some-weaker (WasConnected t) (WasConnected (Say w n ∷ t)) (named_in (value t k)) (λ c e. say-more w n t (key.Conn c) e) (h k)

pub known-set : (j : Key) (x : Fact) (t : Trail) → NamesKnown x t → AllNamesKnown t → AllNamesKnown (Set j x ∷ t)
unfolding value
known-set j x t own h k = by (same_key j k)
  where
    u : Trail
    u = Set j x ∷ t

    more : (y : Fact) → NamesKnown y t → NamesKnown y u
    more y = some-weaker (WasConnected t) (WasConnected u) (named_in y) (λ c e. set-more j x t (key.Conn c) e)

    by : (b : Bool) → NamesKnown (cond b x (value t k)) u
    by true = more x own
    by false = more (value t k) (h k)
