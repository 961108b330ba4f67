-- How entries are made one after the other.
use Rattle.std.proofs.Common.{◌≡◌, ℕ, ◌+◌, List, [], ◌∷◌, ◌++◌, length, refl, ap, sym, ◌∙◌, subst, append_assoc, append-nil, length-append, arith, Some, None, Result, Ok, Err}
use Rattle.login_edge.specs.Texts.{Gains, GainsFront}
use Rattle.login_edge.proofs.Gained.{Gains-more, Gains-front-more, Gains-nothing, Gains-whole}
use Rattle.login_model.specs.declared.event.Event.{Event}
use Rattle.login_model.specs.declared.mark.Entry.{Entry}
use Rattle.login_model.specs.declared.setup.Setup.{Setup}
use Rattle.login_model.specs.Full.{full}
use Rattle.login_laws.specs.Lawful.{IsLawful}
use Rattle.login_model.specs.Legal.{IsLegalAfter, events_of}
use Rattle.login_office.specs.Offices.{Appends, IsSame, OfficeState}
use Rattle.recording.specs.Print.{block, blocks}
use Rattle.replay.specs.Recording.{IsNeverFullAfter}
use Rattle.replay.specs.declared.early.Early.{Early}
use Rattle.replay.specs.declared.early.Early.TheVariants as early
use Rattle.replay.specs.inner.Making.{AllMade, AreMade, CutOff, Makes, MakesRoom, blocks_behind}
use Rattle.replay.proofs.Written.{TextTold}
use Rattle.replay.proofs.Journals.{legal_behind}
use Rattle.login_office.proofs.Entries.{events-append}

pub legal-append : (U : Setup) (before xs ys : List Entry) → IsLegalAfter U before xs → IsLegalAfter U (before ++ xs) ys → IsLegalAfter U before (xs ++ ys)
legal-append U before [] ys h k = subst (λ (b : List Entry). IsLegalAfter U b ys) (append-nil before) k
legal-append U before (x ∷ xs) ys h k =
    (h.0, legal-append U (before ++ x ∷ []) xs ys h.1 (subst (λ (b : List Entry). IsLegalAfter U b ys) (sym (append_assoc before (x ∷ []) xs)) k))

pub room-append : (U : Setup) (before xs ys : List Entry) → IsNeverFullAfter U before xs → IsNeverFullAfter U (before ++ xs) ys → IsNeverFullAfter U before (xs ++ ys)
room-append U before [] ys h k = subst (λ (b : List Entry). IsNeverFullAfter U b ys) (append-nil before) k
room-append U before (x ∷ xs) ys h k =
    (h.0, room-append U (before ++ x ∷ []) xs ys h.1 (subst (λ (b : List Entry). IsNeverFullAfter U b ys) (sym (append_assoc before (x ∷ []) xs)) k))

pub blocks-append : (n : ℕ) (xs ys : List Entry) → blocks n (xs ++ ys) ≡ blocks n xs ++ blocks (n + length xs) ys
unfolding blocks
blocks-append n [] ys = ap (λ (k : ℕ). blocks k ys) (omega arith)
blocks-append n (x ∷ xs) ys =
    ap (λ (t : List ℕ). block n x ++ t) (blocks-append (n + 1) xs ys)
    ∙ (sym (append_assoc (block n x) (blocks (n + 1) xs) (blocks (n + 1 + length xs) ys))
    ∙ ap (λ (k : ℕ). (block n x ++ blocks (n + 1) xs) ++ blocks k ys) (omega arith))

pub blocks-then : (before xs ys : List Entry) → blocks_behind before (xs ++ ys) ≡ blocks_behind before xs ++ blocks_behind (before ++ xs) ys
blocks-then before xs ys =
    blocks-append (length before + 1) xs ys
    ∙ ap (λ (k : ℕ). blocks (length before + 1) xs ++ blocks k ys) (omega (arith, length-append before xs))

pub blocks-one : (before : List Entry) (e : Entry) → blocks_behind before (e ∷ []) ≡ block (length before + 1) e
unfolding blocks
blocks-one before e = append-nil (block (length before + 1) e)

pub blocks-none : (before : List Entry) → blocks_behind before [] ≡ []
unfolding blocks
blocks-none before = refl

-- ---- entries that are made

pub none-made : (U : Setup) (before : List Entry) → AreMade U before [] [] []
none-made U before = record { are = refl; legal = tt; room = tt }

made-then : (U : Setup) (before : List Entry) (xs ys : List Event) (a b : List Entry) (more : List Event)
    → AreMade U before xs a [] → AreMade U (before ++ a) ys b more → AreMade U before (xs ++ ys) (a ++ b) more
made-then U before xs ys a b more h k = record {
  are = ap (λ (t : List Event). t ++ ys) (h.are ∙ append-nil (events_of a)) ∙ (ap (λ (t : List Event). events_of a ++ t) k.are
      ∙ (sym (append_assoc (events_of a) (events_of b) more) ∙ ap (λ (t : List Event). t ++ more) (sym (events-append a b))));
  legal = legal-append U before a b h.legal k.legal;
  room = room-append U before a b h.room k.room;
}

made-early : (U : Setup) (before : List Entry) (xs ys : List Event) (a : List Entry) (more : List Event) → AreMade U before xs a more → AreMade U before (xs ++ ys) a (more ++ ys)
made-early U before xs ys a more h = record {
  are = ap (λ (t : List Event). t ++ ys) h.are ∙ append_assoc (events_of a) more ys;
  legal = h.legal;
  room = h.room;
}

-- nothing to make
pub makes-none : (office : OfficeState) (held : TextTold) → Makes office [] office held held (Ok tt)
makes-none office held = record {
  made = [];
  are_made = none-made office.core.setup office.core.journal;
  setup = refl;
  journal = sym (append-nil office.core.journal);
  tellers = refl;
  wrote = subst (λ (t : List ℕ). Gains held held t) (sym (blocks-none office.core.journal)) (Gains-nothing held);
}

-- what was made is the journal now
behind-made : (old mid : OfficeState) (xs ys : List Event) (held there : TextTold) (h : AllMade old xs mid held there) (b : List Entry) (more : List Event)
    → AreMade mid.core.setup mid.core.journal ys b more → AreMade old.core.setup (old.core.journal ++ h.made) ys b more
behind-made old mid xs ys held there h b more k =
    subst (λ (U : Setup). AreMade U (old.core.journal ++ h.made) ys b more) h.setup (subst (λ (j : List Entry). AreMade mid.core.setup j ys b more) h.journal k)

wrote-then : (old mid : OfficeState) (xs : List Event) (held there now : TextTold) (h : AllMade old xs mid held there) (b : List Entry)
    → Gains there now (blocks_behind mid.core.journal b) → Gains held now (blocks_behind old.core.journal (h.made ++ b))
wrote-then old mid xs held there now h b w =
    let J = old.core.journal in
    subst (λ (t : List ℕ). Gains held now t) (sym (blocks-then J h.made b))
    (Gains-more held there now (blocks_behind J h.made) (blocks_behind (J ++ h.made) b) h.wrote
    (subst (λ (j : List Entry). Gains there now (blocks_behind j b)) h.journal w))

wrote-front-then : (old mid : OfficeState) (xs : List Event) (held there now : TextTold) (h : AllMade old xs mid held there) (b : List Entry)
    → GainsFront there now (blocks_behind mid.core.journal b) → GainsFront held now (blocks_behind old.core.journal (h.made ++ b))
wrote-front-then old mid xs held there now h b w =
    let J = old.core.journal in
    subst (λ (t : List ℕ). GainsFront held now t) (sym (blocks-then J h.made b))
    (Gains-front-more held there now (blocks_behind J h.made) (blocks_behind (J ++ h.made) b) h.wrote
    (subst (λ (j : List Entry). GainsFront there now (blocks_behind j b)) h.journal w))

cut-then : (old mid : OfficeState) (xs ys : List Event) (held there now : TextTold) → AllMade old xs mid held there → CutOff mid ys there now → CutOff old (xs ++ ys) held now
cut-then old mid xs ys held there now h k = record {
  made = h.made ++ k.made;
  more = k.more;
  are_made = made-then old.core.setup old.core.journal xs ys h.made k.made k.more h.are_made (behind-made old mid xs ys held there h k.made k.more k.are_made);
  wrote = wrote-front-then old mid xs held there now h k.made k.wrote;
}

-- these events, and then others
pub makes-then : (old mid new : OfficeState) (xs ys : List Event) (held there now : TextTold) (r : Result (Unit {0}) Early)
    → AllMade old xs mid held there → Makes mid ys new there now r → Makes old (xs ++ ys) new held now r
makes-then old mid new xs ys held there now (Ok u) h k = record {
  made = h.made ++ k.made;
  are_made = made-then old.core.setup old.core.journal xs ys h.made k.made [] h.are_made (behind-made old mid xs ys held there h k.made [] k.are_made);
  setup = k.setup ∙ h.setup;
  journal = k.journal ∙ (ap (λ (j : List Entry). j ++ k.made) h.journal ∙ append_assoc old.core.journal h.made k.made);
  tellers = k.tellers ∙ h.tellers;
  wrote = wrote-then old mid xs held there now h k.made k.wrote;
}
makes-then old mid new xs ys held there now (Err (early.Full count)) h k = record {
  made = h.made ++ k.made;
  event = k.event;
  more = k.more;
  are_made = made-then old.core.setup old.core.journal xs ys h.made k.made (k.event ∷ k.more) h.are_made (behind-made old mid xs ys held there h k.made (k.event ∷ k.more) k.are_made);
  full = subst (λ (j : List Entry). full old.core.setup j k.event ≡ Some count) (append_assoc old.core.journal h.made k.made)
      (subst (λ (j : List Entry). full old.core.setup (j ++ k.made) k.event ≡ Some count) h.journal (subst (λ (U : Setup). full U (mid.core.journal ++ k.made) k.event ≡ Some count) h.setup k.full));
  wrote = wrote-then old mid xs held there now h k.made k.wrote;
}
makes-then old mid new xs ys held there now (Err early.WriteFault) h k = cut-then old mid xs ys held there now h k
makes-then old mid new xs ys held there now (Err early.NoMemory) h k = cut-then old mid xs ys held there now h k
makes-then old mid new xs ys held there now (Err early.ReadFault) h k = absurd k
makes-then old mid new xs ys held there now (Err (early.Script line cause)) h k = absurd k

cut-early : (old : OfficeState) (xs ys : List Event) (held now : TextTold) → CutOff old xs held now → CutOff old (xs ++ ys) held now
cut-early old xs ys held now k = record {
  made = k.made;
  more = k.more ++ ys;
  are_made = made-early old.core.setup old.core.journal xs ys k.made k.more k.are_made;
  wrote = k.wrote;
}

-- these events, one of which was not made: others behind them were not, either
pub makes-early : (old new other : OfficeState) (xs ys : List Event) (held now : TextTold) (e : Early) → Makes old xs new held now (Err e) → Makes old (xs ++ ys) other held now (Err e)
makes-early old new other xs ys held now (early.Full count) k = record {
  made = k.made;
  event = k.event;
  more = k.more ++ ys;
  are_made = made-early old.core.setup old.core.journal xs ys k.made (k.event ∷ k.more) k.are_made;
  full = k.full;
  wrote = k.wrote;
}
makes-early old new other xs ys held now early.WriteFault k = cut-early old xs ys held now k
makes-early old new other xs ys held now early.NoMemory k = cut-early old xs ys held now k
makes-early old new other xs ys held now early.ReadFault k = absurd k
makes-early old new other xs ys held now (early.Script line cause) k = absurd k

-- ---- one event

-- its entry is the one that was made
one-made : (U : Setup) (J : List Entry) (x : Entry) (e : Event) → x.event ≡ e → IsLawful U (J ++ x ∷ []) → full U J e ≡ None → AreMade U J (e ∷ []) (x ∷ []) []
one-made U J x e is lawful room = record {
  are = ap (λ (y : Event). y ∷ []) (sym is);
  legal = legal_behind U [] J (x ∷ []) lawful.legal;
  room = (ap (full U J) is ∙ room, tt);
}

pub step-made : (old new : OfficeState) (x : Entry) (e : Event) (held now : TextTold) → x.event ≡ e → IsLawful old.core.setup (old.core.journal ++ x ∷ []) → full old.core.setup old.core.journal e ≡ None
    → Appends old x new → Gains held now (block (length old.core.journal + 1) x) → AllMade old (e ∷ []) new held now
step-made old new x e held now is lawful room h w = record {
  made = x ∷ [];
  are_made = one-made old.core.setup old.core.journal x e is lawful room;
  setup = h.setup;
  journal = h.journal;
  tellers = h.tellers;
  wrote = subst (λ (t : List ℕ). Gains held now t) (sym (blocks-one old.core.journal x)) w;
}

pub step-cut : (old : OfficeState) (x : Entry) (e : Event) (held now : TextTold) → x.event ≡ e → IsLawful old.core.setup (old.core.journal ++ x ∷ []) → full old.core.setup old.core.journal e ≡ None
    → GainsFront held now (block (length old.core.journal + 1) x) → CutOff old (e ∷ []) held now
step-cut old x e held now is lawful room w = record {
  made = x ∷ [];
  more = [];
  are_made = one-made old.core.setup old.core.journal x e is lawful room;
  wrote = subst (λ (t : List ℕ). GainsFront held now t) (sym (blocks-one old.core.journal x)) w;
}

-- nothing was made of it
pub none-cut : (old : OfficeState) (es : List Event) (held : TextTold) → CutOff old es held held
none-cut old es held = record {
  made = [];
  more = es;
  are_made = record { are = refl; legal = tt; room = tt };
  wrote = subst (λ (t : List ℕ). GainsFront held held t) (sym (blocks-none old.core.journal)) (Gains-whole held held [] (Gains-nothing held));
}

-- no room for it
pub room-makes : (old mid new : OfficeState) (e : Event) (held : TextTold) (early : Early) → MakesRoom old.core mid.core e (Err early) → Makes old (e ∷ []) new held held (Err early)
room-makes old mid new e held (early.Full count) h = record {
  made = [];
  event = e;
  more = [];
  are_made = record { are = refl; legal = tt; room = tt };
  full = subst (λ (j : List Entry). full old.core.setup j e ≡ Some count) (sym (append-nil old.core.journal)) h;
  wrote = subst (λ (t : List ℕ). Gains held held t) (sym (blocks-none old.core.journal)) (Gains-nothing held);
}
room-makes old mid new e held early.NoMemory h = none-cut old (e ∷ []) held
room-makes old mid new e held early.WriteFault h = absurd h
room-makes old mid new e held early.ReadFault h = absurd h
room-makes old mid new e held (early.Script line cause) h = absurd h

-- an office with the same setup, journal and tellers
pub same-made : (old mid : OfficeState) (held : TextTold) → IsSame old mid → AllMade old [] mid held held
same-made old mid held h = record {
  made = [];
  are_made = none-made old.core.setup old.core.journal;
  setup = h.setup;
  journal = h.journal ∙ sym (append-nil old.core.journal);
  tellers = h.tellers;
  wrote = subst (λ (t : List ℕ). Gains held held t) (sym (blocks-none old.core.journal)) (Gains-nothing held);
}
