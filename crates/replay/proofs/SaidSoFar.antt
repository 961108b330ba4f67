-- What was said so far to those who hear.
use Rattle.std.proofs.Common.{◌≡◌, ℕ, ◌==◌, ◌+◌, add-one, Bool, true, false, if◌then◌else◌, Option, Some, None, Result, Ok, Err, List, [], ◌∷◌, ◌++◌, drop, length, take, refl, ap, sym, ◌∙◌, subst, append_assoc, append-nil, filter, ◌⊎◌, inl, inr}
use Rattle.std.specs.List.{flat_map}
use Rattle.std.specs.Option.{is_some}
use Rattle.std.proofs.lemmas.Bool.{eq-eqb}
use Rattle.std.proofs.lemmas.List.{take-append-drop}
use Rattle.std.proofs.Math.Seq.{take-append_seam}
use Rattle.login_base.specs.declared.ids.ConnId.{ConnId}
use Rattle.login_core.specs.State.{CoreState}
use Rattle.login_edge.specs.Texts.{Gains, GainsFront}
use Rattle.login_edge.proofs.Gained.{Gains-front-more, Gains-more, Gains-nothing}
use Rattle.login_model.proofs.FactLaws.{same-conn}
use Rattle.login_model.proofs.InOrder.{rest, rest-all, rest-next, rest-none}
use Rattle.login_model.proofs.Keys.{test}
use Rattle.login_model.proofs.NameLaws.{conn_order}
use Rattle.login_model.specs.Legal.{trail_of}
use Rattle.login_model.specs.Names.{IsNext, conn_lt, is_above}
use Rattle.login_office.specs.Hearing.{TellerState}
use Rattle.login_office.specs.Offices.{OfficeState, teller_of}
use Rattle.replay.specs.Transcript.{closed_text, out_text}
use Rattle.replay.specs.declared.early.Early.{Early}
use Rattle.replay.specs.declared.early.Early.TheVariants.{Script, Full, ReadFault, WriteFault, NoMemory}
use Rattle.replay.specs.declared.own.Own.{Own}
use Rattle.replay.specs.inner.Player.{own_end, own_replies}
use Rattle.replay.specs.inner.Telling.{AllFetched, Fetched, TellsText, all_told, fetched, hearers, hears, own_who, teller_if, told_text, unfetched}
use Rattle.replay.specs.inner.Writing.{Writes}
use Rattle.replay.proofs.Hearers.{hearers-enumerated}

-- ---- texts that are said

-- a front of a text is one of a longer text
pub front-wider : (a b : Option (List ℕ)) (x y : List ℕ) → GainsFront a b x → GainsFront a b (x ++ y)
front-wider a b x y h =
    let front = take h.count x in
    let whole : front ++ (drop h.count x ++ y) ≡ x ++ y = sym (append_assoc front (drop h.count x) y) ∙ ap (λ (t : List ℕ). t ++ y) (take-append-drop h.count x) in
    let same : front ≡ take (length front) (x ++ y) = sym (take-append_seam front (drop h.count x ++ y)) ∙ ap (λ (t : List ℕ). take (length front) t) whole in
    record { count = length front; gained = subst (λ (t : List ℕ). Gains a b t) same h.gained }

-- nothing is a front of each text
pub front-nothing : (a : Option (List ℕ)) (x : List ℕ) → GainsFront a a x
front-nothing a x = record { count = 0; gained = Gains-nothing a }

-- what was written was said
pub tells-written : (a b : Option (List ℕ)) (x : List ℕ) (r : Result (Unit {0}) Early) → Writes a b x r → TellsText a b x r
tells-written a b x (Ok u) h = h
tells-written a b x (Err WriteFault) h = h
tells-written a b x (Err NoMemory) h = subst (λ (o : Option (List ℕ)). GainsFront a o x) (sym h) (front-nothing a x)
tells-written a b x (Err (Script n cause)) h = absurd h
tells-written a b x (Err (Full count)) h = absurd h
tells-written a b x (Err ReadFault) h = absurd h

-- a text, and then another
pub tells-then : (a b c : Option (List ℕ)) (x y : List ℕ) (r : Result (Unit {0}) Early) → Gains a b x → TellsText b c y r → TellsText a c (x ++ y) r
tells-then a b c x y (Ok u) h k = Gains-more a b c x y h k
tells-then a b c x y (Err WriteFault) h k = Gains-front-more a b c x y h k
tells-then a b c x y (Err NoMemory) h k = Gains-front-more a b c x y h k
tells-then a b c x y (Err (Script n cause)) h k = absurd k
tells-then a b c x y (Err (Full count)) h k = absurd k
tells-then a b c x y (Err ReadFault) h k = absurd k

-- where a text broke off, so did the longer one
pub tells-cut : (a b : Option (List ℕ)) (x y : List ℕ) (e : Early) → TellsText a b x (Err e) → TellsText a b (x ++ y) (Err e)
tells-cut a b x y WriteFault h = front-wider a b x y h
tells-cut a b x y NoMemory h = front-wider a b x y h
tells-cut a b x y (Script n cause) h = absurd h
tells-cut a b x y (Full count) h = absurd h
tells-cut a b x y ReadFault h = absurd h

-- ---- what was said to each so far

abbrev pub heard_then : OfficeState → Option Own → ConnId → Bool
heard_then first own c = hears (trail_of first.core.journal) (own_who own) c

-- who is left
abbrev pub unsaid_to : OfficeState → Option Own → Option ConnId → List ConnId
unsaid_to first own after = rest conn_lt (heard_then first own) (hearers (trail_of first.core.journal) (own_who own)) after

pub record IsSaid (first : OfficeState) (own : Option Own) (held : Option (List ℕ)) (after : Option ConnId) (office : OfficeState) (now : Option (List ℕ)) : Type 0 where
  pub text : List ℕ
  pub gained : Gains held now text
  pub whole : text ++ flat_map (told_text first own) (unsaid_to first own after) ≡ all_told first own
  pub core : office.core ≡ first.core
  pub tellers : (c : ConnId) → teller_of office c
      ≡ (if is_above conn_lt after c then teller_of first c else teller_if (heard_then first own c) first.core.journal (teller_of first c))

pub said-nothing : (first : OfficeState) (own : Option Own) (held : Option (List ℕ)) → IsSaid first own held None first held
said-nothing first own held =
    let t = trail_of first.core.journal in
    record {
      text = [];
      gained = Gains-nothing held;
      whole = ap (λ (cs : List ConnId). flat_map (told_text first own) cs) (rest-all conn_lt (heard_then first own) (hearers t (own_who own)) (hearers-enumerated t (own_who own)));
      core = refl;
      tellers = λ c. refl;
    }

-- the next one, as it is found
pub next-of : (core : CoreState) (o : Option ConnId) (office : OfficeState) (own : Option Own) (after next : Option ConnId) → core ≡ office.core → o ≡ own_who own
    → IsNext conn_lt (hears (trail_of core.journal) o) after next → IsNext conn_lt (hears (trail_of office.core.journal) (own_who own)) after next
next-of core o office own after next a b n =
    subst (λ (x : CoreState). IsNext conn_lt (hears (trail_of x.journal) (own_who own)) after next) a
    (subst (λ (x : Option ConnId). IsNext conn_lt (hears (trail_of core.journal) x) after next) b n)

-- the next one is said what it would have been said at first
module _ (first : OfficeState) (own : Option Own) (held : Option (List ℕ)) (after : Option ConnId) (office : OfficeState) (now : Option (List ℕ)) (who : ConnId)
    (s : IsSaid first own held after office now) (n : IsNext conn_lt (hears (trail_of office.core.journal) (own_who own)) after (Some who)) where
  next_is : IsNext conn_lt (heard_then first own) after (Some who)
  next_is = subst (λ (x : CoreState). IsNext conn_lt (hears (trail_of x.journal) (own_who own)) after (Some who)) s.core n

  its_teller : teller_of office who ≡ teller_of first who
  its_teller = s.tellers who ∙ ap (λ (b : Bool). if b then teller_of first who else teller_if (heard_then first own who) first.core.journal (teller_of first who)) next_is.1

  its_text : told_text office own who ≡ told_text first own who
  its_text = λ i. out_text who (own_replies own who ++ unfetched (s.core i).journal (its_teller i)) ++ closed_text who None (own_end own who)

  next_left : unsaid_to first own after ≡ who ∷ unsaid_to first own (Some who)
  next_left =
      let t = trail_of first.core.journal in
      rest-next conn_lt (heard_then first own) (hearers t (own_who own)) (hearers-enumerated t (own_who own)) after who next_is

  whole_then : (s.text ++ told_text first own who) ++ flat_map (told_text first own) (unsaid_to first own (Some who)) ≡ all_told first own
  whole_then =
      append_assoc s.text (told_text first own who) (flat_map (told_text first own) (unsaid_to first own (Some who)))
      ∙ (ap (λ (cs : List ConnId). s.text ++ flat_map (told_text first own) cs) (sym next_left) ∙ s.whole)

  pub fewer-left : length (unsaid_to first own after) ≡ length (unsaid_to first own (Some who)) + 1
  fewer-left = ap (λ (cs : List ConnId). length cs) next_left ∙ sym (add-one (length (unsaid_to first own (Some who))))

  above-both : (c : ConnId) → conn_lt who c ≡ true → (a : Option ConnId) → is_above conn_lt a who ≡ true → is_above conn_lt a c ≡ true
  above-both c e None h = refl
  above-both c e (Some a) h = conn_order.transitive a who c h e

  abbrev as-ever : ConnId → Bool → Type 0
  as-ever c b = (if b then teller_of first c else teller_if (heard_then first own c) first.core.journal (teller_of first c))
      ≡ teller_if (heard_then first own c) first.core.journal (teller_of first c)

  -- one below the next and above the last hears nothing
  below : (c : ConnId) → conn_lt c who ≡ true → (b : Bool) → is_above conn_lt after c ≡ b → as-ever c b
  below c e false a = refl
  below c e true a = by (heard_then first own c) refl
    where
      by : (h : Bool) → heard_then first own c ≡ h → teller_of first c ≡ teller_if (heard_then first own c) first.core.journal (teller_of first c)
      by false h = sym (ap (λ (x : Bool). teller_if x first.core.journal (teller_of first c)) h)
      by true h = absurd (let z : true ≡ false = sym e ∙ next_is.2 c h a in cc)

  lower : (c : ConnId) (b : Bool) → conn_lt c who ≡ b → conn_lt who c ≡ false → (c.0 == who.0) ≡ false → conn_lt c who ≡ true
  lower c true k e h = k
  lower c false k e h = absurd (let z : true ≡ false = sym (eq-eqb c.0 who.0 (ap (λ (x : ConnId). x.0) (conn_order.total c who k e))) ∙ h in cc)

  tellers-then : (new : OfficeState) → Fetched office who new → (c : ConnId) → (b : Bool) → conn_lt who c ≡ b
      → teller_of new c ≡ (if b then teller_of first c else teller_if (heard_then first own c) first.core.journal (teller_of first c))
  tellers-then new f c true e =
      f.others c (λ same. (
      let z : true ≡ false = sym e ∙ (ap (λ (x : ConnId). conn_lt who x) (same-conn c who (eq-eqb c.0 who.0 same)) ∙ conn_order.irreflexive who) in cc))
      ∙ (s.tellers c ∙ ap (λ (b : Bool). if b then teller_of first c else teller_if (heard_then first own c) first.core.journal (teller_of first c)) (above-both c e after next_is.1))
  tellers-then new f c false e = by (test (c.0 == who.0))
    where
      by : ((c.0 == who.0) ≡ true) ⊎ ((c.0 == who.0) ≡ false) → teller_of new c ≡ teller_if (heard_then first own c) first.core.journal (teller_of first c)
      by (inl h) =
          let mine : teller_of new who ≡ teller_if (heard_then first own who) first.core.journal (teller_of first who) =
          f.own ∙ ((λ i. fetched (s.core i).journal (its_teller i)) ∙ sym (ap (λ (b : Bool). teller_if b first.core.journal (teller_of first who)) next_is.0)) in
          subst (λ (x : ConnId). teller_of new x ≡ teller_if (heard_then first own x) first.core.journal (teller_of first x)) (sym (same-conn c who h)) mine
      by (inr h) =
          f.others c (λ same. (let z : true ≡ false = sym (eq-eqb c.0 who.0 same) ∙ h in cc))
          ∙ (s.tellers c ∙ below c (lower c (conn_lt c who) refl e h) (is_above conn_lt after c) refl)

  pub said-one : (new : OfficeState) (later : Option (List ℕ)) → Gains now later (told_text office own who) → Fetched office who new → IsSaid first own held (Some who) new later
  said-one new later g f = record {
    text = s.text ++ told_text first own who;
    gained = Gains-more held now later s.text (told_text first own who) s.gained (subst (λ (t : List ℕ). Gains now later t) its_text g);
    whole = whole_then;
    core = f.core ∙ s.core;
    tellers = λ c. tellers-then new f c (conn_lt who c) refl;
  }

  pub said-broken : (later : Option (List ℕ)) (e : Early) → TellsText now later (told_text office own who) (Err e) → TellsText held later (all_told first own) (Err e)
  said-broken later e h =
      let some : TellsText held later (s.text ++ told_text first own who) (Err e) =
      tells-then held now later s.text (told_text first own who) (Err e) s.gained (subst (λ (t : List ℕ). TellsText now later t (Err e)) its_text h) in
      subst (λ (t : List ℕ). TellsText held later t (Err e)) whole_then
      (tells-cut held later (s.text ++ told_text first own who) (flat_map (told_text first own) (unsaid_to first own (Some who))) e some)

-- all was said
module _ (first : OfficeState) (own : Option Own) (held : Option (List ℕ)) (after : Option ConnId) (office : OfficeState) (now : Option (List ℕ))
    (s : IsSaid first own held after office now) (n : IsNext conn_lt (hears (trail_of office.core.journal) (own_who own)) after None) where
  none_left : unsaid_to first own after ≡ []
  none_left =
      let t = trail_of first.core.journal in
      rest-none conn_lt (heard_then first own) (hearers t (own_who own)) (hearers-enumerated t (own_who own)) after
      (subst (λ (x : CoreState). IsNext conn_lt (hears (trail_of x.journal) (own_who own)) after None) s.core n)

  pub said-all : Gains held now (all_told first own)
  said-all =
      subst (λ (t : List ℕ). Gains held now t)
      (sym (append-nil s.text) ∙ (ap (λ (cs : List ConnId). s.text ++ flat_map (told_text first own) cs) (sym none_left) ∙ s.whole)) s.gained

  unheard : (c : ConnId) (b : Bool) → is_above conn_lt after c ≡ b
      → (if b then teller_of first c else teller_if (heard_then first own c) first.core.journal (teller_of first c))
      ≡ teller_if (heard_then first own c) first.core.journal (teller_of first c)
  unheard c false a = refl
  unheard c true a = by (heard_then first own c) refl
    where
      by : (h : Bool) → heard_then first own c ≡ h → teller_of first c ≡ teller_if (heard_then first own c) first.core.journal (teller_of first c)
      by false h = sym (ap (λ (x : Bool). teller_if x first.core.journal (teller_of first c)) h)
      by true h = absurd (subst (λ (x : CoreState). IsNext conn_lt (hears (trail_of x.journal) (own_who own)) after None) s.core n c h a)

  pub fetched-all : AllFetched first own office
  fetched-all = record { core = s.core; tellers = λ c. s.tellers c ∙ unheard c (is_above conn_lt after c) refl }

-- ---- where no link is open, and the line is none of one

module _ (office : OfficeState) (none : (c : ConnId) → teller_of office c ≡ None) where
  nothing_to : (c : ConnId) → told_text office None c ≡ []
  nothing_to c = ap (λ (t : Option TellerState). out_text c (unfetched office.core.journal t) ++ []) (none c)

  nothing_of : (xs : List ConnId) → flat_map (told_text office None) xs ≡ []
  nothing_of [] = refl
  nothing_of (c ∷ cs) = ap (λ (t : List ℕ). t ++ flat_map (told_text office None) cs) (nothing_to c) ∙ nothing_of cs

  kept : (b : Bool) → None ≡ teller_if b office.core.journal None
  kept true = refl
  kept false = refl

  pub nobody-told : (own : Option Own) (held : Option (List ℕ)) → is_some own ≡ false → Gains held held (all_told office own)
  nobody-told None held e =
      let t = trail_of office.core.journal in
      subst (λ (text : List ℕ). Gains held held text) (sym (nothing_of (filter (hears t None) (hearers t None)))) (Gains-nothing held)
  nobody-told (Some o) held e = absurd (let k : true ≡ false = e in cc)

  pub nobody-fetched : (own : Option Own) → AllFetched office own office
  nobody-fetched own = record { core = refl; tellers = λ c. rw (none c) (kept (hears (trail_of office.core.journal) (own_who own) c)) }
