-- The tellers of an office, by their numbers.
use Rattle.std.proofs.Common.{◌≡◌, ◌≢◌, ◌↔◌, ℕ, zero, suc, ◌≤◌, List, [], ◌∷◌, ◌++◌, length, take, refl, ap, sym, subst, ◌∙◌, arith, Bool, true, false, cond, Option, Some, None, Result, Ok, Err, IfOk, OnOk, OnErr}
use Rattle.std.proofs.lemmas.Bool.Decides.{nat_tests}
use Rattle.std.proofs.lemmas.List.{take_all, length-take}
use Rattle.std.specs.BTreeMap.{is_at}
use Rattle.std.specs.Map.{set_value}
use Rattle.std.proofs.lemmas.Map.Steps.{set_value_same}
use Rattle.std.specs.Ordering.{nat_cmp}
use Rattle.login_base.specs.declared.ids.ConnId.{ConnId}
use Rattle.login_base.specs.declared.memory.NoMemory.{NoMemory}
use Rattle.login_core.specs.State.{CoreState}
use Rattle.login_laws.specs.Lawful.{IsLawful}
use Rattle.login_model.specs.Full.{mark_count}
use Rattle.login_model.specs.Limits.{entries_limit, marks_limit}
use Rattle.login_model.specs.Conf.{IsAllowed}
use Rattle.login_model.specs.Setups.{IsSetup}
use Rattle.login_model.specs.declared.setup.Setup.{Setup}
use Rattle.login_model.specs.declared.mark.Entry.{Entry}
use Rattle.wire_out.specs.Conditions.{IsMailable}
use Rattle.wire_out.specs.Places.{IsPlaceIn, Place, place_of}
use Rattle.login_office.specs.Hearing.{KeepsLink, TellerState}
use Rattle.login_office.specs.Mailing.{Fetches}
use Rattle.login_office.specs.Offices.{teller_at}
use Rattle.login_office.specs.declared.teller.HeardPiece.{HeardPiece}
use Rattle.login_office.specs.inner.Inside.{IsAt, IsOffice}

pub found : (k q : ℕ) → is_at (nat_cmp k) q ≡ true → q ≡ k
found k q e = grind (arith, nat_tests)

pub apart : (k q : ℕ) → q ≢ k → is_at (nat_cmp k) q ≡ false
apart k q other = grind (arith, nat_tests)

abbrev pub Tellers : Type 0
Tellers = List (ℕ × TellerState)

first : (k : ℕ) (t : TellerState) (rest : Tellers) → teller_at k ((k, t) ∷ rest) ≡ Some t
first k t rest =
    let here : is_at (nat_cmp k) k ≡ true = grind (arith, nat_tests) in
    ap (λ (b : Bool). cond b (Some t) (teller_at k rest)) here

-- no connection has a teller just where there are no rows
pub none_open : (rows : Tellers) → (length rows ≡ 0) ↔ ((c : ConnId) → teller_at c.0 rows ≡ None)
none_open [] = (λ _ c. refl, λ _. refl)
none_open ((k, t) ∷ rest) = (λ e. absurd (omega arith), λ none. absurd (let gone : Some t ≡ None = sym (first k t rest) ∙ none (record { 0 = k }) in cc))

-- the tellers are as before, but for this one of a number
abbrev pub UpdatesAt : ℕ → Tellers → Tellers → Option TellerState → Type 0
UpdatesAt k old new w = (q : ℕ) → teller_at q new ≡ cond (is_at (nat_cmp k) q) w (teller_at q old)

abbrev pub AreAt : CoreState → Tellers → Type 0
AreAt core tellers = (number : ℕ) (teller : TellerState) → teller_at number tellers ≡ Some teller → IsAt core number teller

pub updated : (core : CoreState) (k : ℕ) (old new : Tellers) (w : Option TellerState) → UpdatesAt k old new w
    → ((t : TellerState) → w ≡ Some t → IsAt core k t) → AreAt core old → AreAt core new
updated core k old new w u at each number teller e = by (is_at (nat_cmp k) number) refl
  where
    by : (b : Bool) → is_at (nat_cmp k) number ≡ b → IsAt core number teller
    by true is =
        let here : w ≡ Some teller = sym (ap (λ (b : Bool). cond b w (teller_at number old)) is) ∙ sym (u number) ∙ e in
        subst (λ (n : ℕ). IsAt core n teller) (sym (found k number is)) (at teller here)
    by false is =
        each number teller (sym (ap (λ (b : Bool). cond b w (teller_at number old)) is) ∙ sym (u number) ∙ e)

pub others : (k : ℕ) (old new : Tellers) (w : Option TellerState) → UpdatesAt k old new w → (b : ConnId) → b.0 ≢ k → teller_at b.0 new ≡ teller_at b.0 old
others k old new w u b other = u b.0 ∙ ap (λ (t : Bool). cond t w (teller_at b.0 old)) (apart k b.0 other)

-- what a teller that heard a piece, or fetched its mail, is
pub heard_at : (core : CoreState) (k : ℕ) (old new : TellerState) → IsAt core k old → KeepsLink old new → IsAt core k new
heard_at core k old new at keeps = record {
  who = keeps.who ∙ at.who;
  own = ap (λ (p : Place). p.who) keeps.place ∙ at.own;
  place = subst (λ (p : Place). IsPlaceIn p core.journal) (sym keeps.place) at.place;
}

placed_now : (c : ConnId) (J : List Entry) → IsPlaceIn (place_of c J) J
placed_now c J = sym (ap (place_of c) (take_all (length J) J (omega arith)))

pub fetched_at : (core : CoreState) (k : ℕ) (old new : TellerState) (bytes : List ℕ) → IsAt core k old → Fetches old core.journal new bytes → IsAt core k new
fetched_at core k old new bytes at f = record {
  who = f.who ∙ at.who;
  own = ap (λ (p : Place). p.who) f.place ∙ at.own;
  place = subst (λ (p : Place). IsPlaceIn p core.journal) (sym f.place) (placed_now old.place.who core.journal);
}

take_front : {X : Type 0} (n : ℕ) (xs more : List X) → n ≤ length xs → take n (xs ++ more) ≡ take n xs
take_front zero xs more h = refl
take_front (suc n) [] more h = absurd (let k : ⊥ = omega (arith, h) in k)
take_front (suc n) (x ∷ xs) more h = ap (λ (ys : List _). x ∷ ys) (take_front n xs more (omega (arith, h)))

-- a place in a journal is one in each that goes on from it
pub place_goes_on : (p : Place) (J more : List Entry) → IsPlaceIn p J → IsPlaceIn p (J ++ more)
place_goes_on p J more is =
    let count : p.entries ≡ length (take p.entries J) = ap (λ (x : Place). x.entries) is in
    is ∙ sym (ap (place_of p.who) (take_front p.entries J more (omega (arith, count, length-take p.entries J))))

pub stepped : (old new : CoreState) (tellers : Tellers) (e : Entry) → new.journal ≡ old.journal ++ e ∷ [] → AreAt old tellers → AreAt new tellers
stepped old new tellers e is each number teller there =
    let at = each number teller there in
    record {
      who = at.who;
      own = at.own;
      place = subst (IsPlaceIn teller.place) (sym is) (place_goes_on teller.place old.journal (e ∷ []) at.place);
    }

-- before the first entry nothing was fetched
pub new_at : (core : CoreState) (c : ConnId) (teller : TellerState) → teller.who ≡ c → teller.place ≡ place_of c [] → IsAt core c.0 teller
new_at core c teller who place = record {
  who = who;
  own = ap (λ (p : Place). p.who) place;
  place = subst (λ (p : Place). IsPlaceIn p core.journal) (sym place) refl;
}

-- that of a link whose mail begins behind the journal
pub behind_at : (core : CoreState) (c : ConnId) (teller : TellerState) (J : List Entry) → J ≡ core.journal → teller.who ≡ c → teller.place ≡ place_of c J → IsAt core c.0 teller
behind_at core c teller J is who place =
    let at : teller.place ≡ place_of c core.journal = place ∙ ap (place_of c) is in
    record {
      who = who;
      own = ap (λ (p : Place). p.who) at;
      place = subst (λ (p : Place). IsPlaceIn p core.journal) (sym at) (ap (place_of c) (sym (take_all (length core.journal) core.journal (omega arith))));
    }

-- what the office keeps where one teller changes
pub office_updated : (core : CoreState) (k : ℕ) (old new : Tellers) (w : Option TellerState) → UpdatesAt k old new w
    → ((t : TellerState) → w ≡ Some t → IsAt core k t) → IsOffice core old → IsOffice core new
office_updated core k old new w u at is = record { set_up = is.set_up; allowed = is.allowed; each = updated core k old new w u at is.each }

pub office_without : (core : CoreState) (k : ℕ) (old new : Tellers) → UpdatesAt k old new None → IsOffice core old → IsOffice core new
office_without core k old new u is = office_updated core k old new None u (λ t e. absurd (let never : ⊥ = cc in never)) is

pub office_written : (core : CoreState) (k : ℕ) (old new : Tellers) (t : TellerState) → UpdatesAt k old new (Some t) → IsAt core k t → IsOffice core old
    → IsOffice core new
office_written core k old new t u at is =
    office_updated core k old new (Some t) u (λ x e. let same : t ≡ x = cc in subst (IsAt core k) same at) is

-- and where an entry comes
pub office_stepped : (old new : CoreState) (tellers : Tellers) (e : Entry) → new.setup ≡ old.setup → new.journal ≡ old.journal ++ e ∷ []
    → IsOffice old tellers → IsOffice new tellers
office_stepped old new tellers e setup journal is = record {
  set_up = subst IsSetup (sym setup) is.set_up;
  allowed = subst (λ (s : Setup). IsAllowed s.conf) (sym setup) is.allowed;
  each = stepped old new tellers e journal is.each;
}

pub office_same : (old new : CoreState) (tellers : Tellers) → new.setup ≡ old.setup → new.journal ≡ old.journal → IsOffice old tellers → IsOffice new tellers
office_same old new tellers setup journal is = record {
  set_up = subst IsSetup (sym setup) is.set_up;
  allowed = subst (λ (s : Setup). IsAllowed s.conf) (sym setup) is.allowed;
  each = λ number teller there. let at = is.each number teller there in record {
    who = at.who;
    own = at.own;
    place = subst (IsPlaceIn teller.place) (sym journal) at.place;
  };
}

-- a teller behind a call, whether or not it lacked memory
pub hear_at : (core : CoreState) (k : ℕ) (old new : TellerState) (r : Result HeardPiece NoMemory) → IsAt core k old → OnOk r (KeepsLink old new)
    → OnErr r (new ≡ old) → IsAt core k new
hear_at core k old new (Ok h) at keeps same = heard_at core k old new at keeps
hear_at core k old new (Err e) at keeps same = subst (IsAt core k) (sym same) at

pub mail_at : (core : CoreState) (k : ℕ) (J : List Entry) (old new : TellerState) (r : Result (List ℕ) NoMemory) → J ≡ core.journal → IsAt core k old
    → IfOk r (λ bytes. Fetches old J new bytes) → OnErr r (new ≡ old) → IsAt core k new
mail_at core k J old new (Ok bytes) is at f same = fetched_at core k old new bytes at (subst (λ (j : List Entry). Fetches old j new bytes) is f)
mail_at core k J old new (Err e) is at f same = subst (IsAt core k) (sym same) at

-- a teller that is written back as it was
pub same_entries : (k : ℕ) (old new : Tellers) (t w : TellerState) → Some t ≡ teller_at k old → new ≡ set_value (is_at (nat_cmp k)) old w → w ≡ t → new ≡ old
same_entries k old new t w there is same = is ∙ set_value_same (is_at (nat_cmp k)) old w (sym there ∙ ap Some (sym same))

pub on_err : {T : Type 0} (r : Result T NoMemory) (P Q : Type 0) → (P → Q) → OnErr r P → OnErr r Q
on_err (Ok x) P Q f h = tt
on_err (Err e) P Q f h = f h

-- the core's journal has mail
pub mailable : (core : CoreState) (tellers : Tellers) → IsOffice core tellers → IsLawful core.setup core.journal → length core.journal ≤ entries_limit
    → mark_count core.journal ≤ marks_limit → IsMailable core.journal
mailable core tellers is lawful entries marks = record {
  setup = core.setup;
  set_up = is.set_up;
  allowed = is.allowed;
  legal = lawful.legal;
  entries = entries;
  marks = marks;
}
