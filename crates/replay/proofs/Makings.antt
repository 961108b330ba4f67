-- How events of several kinds are made one behind the other.
use Rattle.std.proofs.Common.{◌≡◌, ℕ, ◌+◌, ◌==◌, ◌&&◌, ◌||◌, not, if◌then◌else◌, Bool, true, false, List, [], ◌∷◌, ◌++◌, map, length, refl, ap, sym, ◌∙◌, subst, append-nil, Option, Some, None, Result, Ok, Err}
use Rattle.std.proofs.lemmas.Bool.{eq-eqb}
use Rattle.std.specs.Iterator.{Yields}
use Rattle.std.specs.Vec.Iter.{into_iter_items, into_iter_steps}
use Rattle.std.specs.declared.vec.IntoIter.{IntoIter}
use Rattle.login_base.specs.declared.ids.ConnId.{ConnId}
use Rattle.login_base.specs.declared.ids.Uid.{Uid}
use Rattle.login_edge.specs.Texts.{Gains, GainsFront}
use Rattle.login_laws.specs.Lawful.{IsLawful}
use Rattle.login_model.specs.Full.{full}
use Rattle.login_model.specs.Legal.{AreInPlace, IsLegal, IsLegalAfter, IsPlaced, events_of, trail_of}
use Rattle.login_model.specs.Policy.{verdict}
use Rattle.login_model.specs.Reading.{is_granted}
use Rattle.login_model.specs.Where.{is_connected}
use Rattle.login_model.specs.declared.event.Event.{Event}
use Rattle.login_model.specs.declared.event.Event.TheVariants as event
use Rattle.login_model.specs.declared.event.Request.{Request}
use Rattle.login_model.specs.declared.mark.Entry.{Entry}
use Rattle.login_model.specs.declared.setup.Setup.{Setup}
use Rattle.login_office.specs.Offices.{Appends, OfficeState}
use Rattle.recording.specs.Print.{block}
use Rattle.replay.specs.declared.early.Early.{Early}
use Rattle.replay.specs.inner.Making.{AllMade, CutOff, Makes, connect_of, is_in_then, turns_of}
use Rattle.login_office.proofs.Connected.{connected-more, connected_by, unused-unconnected}
use Rattle.replay.proofs.Written.{TextTold}
use Rattle.replay.proofs.EventLines.{one-event}
use Rattle.replay.proofs.LinkStanding.{no-entries}
use Rattle.replay.proofs.InPlace.{in-place-front, in-place-rest}
use Rattle.replay.proofs.MadeEntries.{makes-early, makes-then, step-cut, step-made}

-- the events of the entries that were made
pub all-events : (old new : OfficeState) (xs : List Event) (held now : TextTold) (h : AllMade old xs new held now) → events_of h.made ≡ xs
all-events old new xs held now h = sym (append-nil (events_of h.made)) ∙ sym h.are_made.are

-- the others are in place behind those that were made
pub rest-placed : (old new : OfficeState) (xs ys : List Event) (held now : TextTold) → AreInPlace old.core.setup old.core.journal (xs ++ ys) → AllMade old xs new held now
    → AreInPlace new.core.setup new.core.journal ys
rest-placed old new xs ys held now p h =
    subst (λ (U : Setup). AreInPlace U new.core.journal ys) (sym h.setup)
    (subst (λ (j : List Entry). AreInPlace old.core.setup j ys) (sym h.journal)
    (in-place-rest old.core.setup old.core.journal h.made xs ys p h.are_made.legal (all-events old new xs held now h)))

-- ---- the end of a link, behind its calls

pub turn-placed : (old mid : OfficeState) (c : ConnId) (calls : List Request) (ends : Bool) (held now : TextTold) → ends ≡ true → AreInPlace old.core.setup old.core.journal (turns_of c calls ends)
    → AllMade old (map event.Call calls) mid held now → IsPlaced mid.core.journal (event.Disconnect c)
turn-placed old mid c calls true held now e p h = (rest-placed old mid (map event.Call calls) (event.Disconnect c ∷ []) held now p h).0
turn-placed old mid c calls false held now e p h = absurd (let k : false ≡ true = e in cc)

pub turn-made : (old mid new : OfficeState) (c : ConnId) (calls : List Request) (ends : Bool) (held there now : TextTold) (r : Result (Unit {0}) Early) → ends ≡ true
    → AllMade old (map event.Call calls) mid held there → Makes mid (event.Disconnect c ∷ []) new there now r → Makes old (turns_of c calls ends) new held now r
turn-made old mid new c calls true held there now r e h k = makes-then old mid new (map event.Call calls) (event.Disconnect c ∷ []) held there now r h k
turn-made old mid new c calls false held there now r e h k = absurd (let z : false ≡ true = e in cc)

pub no-turn-made : (old mid : OfficeState) (c : ConnId) (calls : List Request) (ends : Bool) (held there : TextTold) → ends ≡ false → AllMade old (map event.Call calls) mid held there
    → Makes old (turns_of c calls ends) mid held there (Ok tt)
no-turn-made old mid c calls true held there e h = absurd (let z : true ≡ false = e in cc)
no-turn-made old mid c calls false held there e h = subst (λ (es : List Event). AllMade old es mid held there) (sym (append-nil (map event.Call calls))) h

-- ---- a link that begins

-- whether it is connected behind its connect
pub then-connected : (old mid : OfficeState) (c : ConnId) (begins : Option Uid) (held now : TextTold) → IsLegal old.core.setup old.core.journal → AreInPlace old.core.setup old.core.journal (connect_of c begins)
    → AllMade old (connect_of c begins) mid held now → is_connected (trail_of mid.core.journal) c ≡ is_in_then old.core.setup old.core.journal c begins
then-connected old mid c None held now legal p h =
    ap (λ (j : List Entry). is_connected (trail_of j) c)
    (h.journal ∙ (ap (λ (es : List Entry). old.core.journal ++ es) (no-entries h.made (all-events old mid [] held now h)) ∙ append-nil old.core.journal))
then-connected old mid c (Some u) held now legal p h =
    let U = old.core.setup in
    let J = old.core.journal in
    let one = one-event h.made (event.Connect c u) (all-events old mid (event.Connect c u ∷ []) held now h) in
    let x = one.entry in
    let legal-one : IsLegalAfter U J (x ∷ []) = subst (IsLegalAfter U J) one.all h.are_made.legal in
    let v : is_granted x.verdict ≡ is_granted (verdict U (trail_of J) (event.Connect c u)) = ap is_granted (legal-one.0.verdict_is ∙ ap (verdict U (trail_of J)) one.event_is) in
    let same : (c.0 == c.0) ≡ true = eq-eqb c.0 c.0 refl in
    let was : is_connected (trail_of J) c ≡ false = unused-unconnected U J c legal p.0.0.1 in
    ap (λ (j : List Entry). is_connected (trail_of j) c) (h.journal ∙ ap (λ (es : List Entry). J ++ es) one.all)
    ∙ (connected-more U J x c legal-one.0
    ∙ (ap (λ (e : Event). connected_by c e x.verdict (is_connected (trail_of J) c)) one.event_is
    ∙ ((λ i. (same i && v i) || (not false && was i)) ∙ or-false (is_granted (verdict U (trail_of J) (event.Connect c u))))))
  where
    or-false : (b : Bool) → (true && b) || (true && false) ≡ b
    or-false true = refl
    or-false false = refl

-- so it was answered
pub let-in-so : (old mid : OfficeState) (c : ConnId) (begins : Option Uid) (is_in : Bool) (ys : List Event) (held now : TextTold) → is_in ≡ is_connected (trail_of mid.core.journal) c → IsLegal old.core.setup old.core.journal
    → AreInPlace old.core.setup old.core.journal (connect_of c begins ++ (if is_in_then old.core.setup old.core.journal c begins then ys else [])) → AllMade old (connect_of c begins) mid held now
    → is_in ≡ is_in_then old.core.setup old.core.journal c begins
let-in-so old mid c begins is_in ys held now says legal p h =
    let U = old.core.setup in
    let J = old.core.journal in
    says ∙ then-connected old mid c begins held now legal (in-place-front U J (connect_of c begins) (if is_in_then U J c begins then ys else []) p) h

-- the turns of a link that is let in, behind its connect
pub turns-placed : (old mid : OfficeState) (c : ConnId) (begins : Option Uid) (b is_in : Bool) (ys : List Event) (held now : TextTold) → is_in ≡ true → is_in ≡ b
    → AreInPlace old.core.setup old.core.journal (connect_of c begins ++ (if b then ys else [])) → AllMade old (connect_of c begins) mid held now → AreInPlace mid.core.setup mid.core.journal ys
turns-placed old mid c begins true is_in ys held now e is p h = rest-placed old mid (connect_of c begins) ys held now p h
turns-placed old mid c begins false is_in ys held now e is p h = absurd (let z : false ≡ true = sym is ∙ e in cc)

pub turns-made : (old mid new : OfficeState) (c : ConnId) (begins : Option Uid) (b is_in : Bool) (ys : List Event) (held there now : TextTold) (r : Result (Unit {0}) Early) → is_in ≡ true → is_in ≡ b
    → AllMade old (connect_of c begins) mid held there → Makes mid ys new there now r → Makes old (connect_of c begins ++ (if b then ys else [])) new held now r
turns-made old mid new c begins true is_in ys held there now r e is h k = makes-then old mid new (connect_of c begins) ys held there now r h k
turns-made old mid new c begins false is_in ys held there now r e is h k = absurd (let z : false ≡ true = sym is ∙ e in cc)

pub no-turns-made : (old mid : OfficeState) (c : ConnId) (begins : Option Uid) (b is_in : Bool) (ys : List Event) (held there : TextTold) → is_in ≡ false → is_in ≡ b
    → AllMade old (connect_of c begins) mid held there → Makes old (connect_of c begins ++ (if b then ys else [])) mid held there (Ok tt)
no-turns-made old mid c begins true is_in ys held there e is h = absurd (let z : true ≡ false = sym is ∙ e in cc)
no-turns-made old mid c begins false is_in ys held there e is h = subst (λ (es : List Event). AllMade old es mid held there) (sym (append-nil (connect_of c begins))) h

-- ---- calls

-- what the iterator of a vector has given is a front of its items
pub taken-front : {X A : Type 0} (s : IntoIter X A) (xs : List X) (t : IntoIter X A) → Yields into_iter_steps s xs t → into_iter_items s ≡ xs ++ into_iter_items t
taken-front {X = X} s [] t y = ap into_iter_items y
taken-front {X = X} s (x ∷ xs) t y = y.1.0 ∙ ap (λ (ys : List X). x ∷ ys) (taken-front y.0 xs t y.2)

-- an item that comes next stands behind these, before those that are still to come
pub next-item : {X A : Type 0} (s : IntoIter X A) (all xs : List X) (t : IntoIter X A) (x : X) (u : IntoIter X A) → into_iter_items s ≡ all → Yields into_iter_steps s xs t → into_iter_steps t (Some x) u
    → all ≡ xs ++ x ∷ into_iter_items u
next-item s all xs t x u is y goes = sym is ∙ (taken-front s xs t y ∙ ap (λ ys. xs ++ ys) goes.0)

map-append : {A B : Type 0} (f : A → B) (xs ys : List A) → map f (xs ++ ys) ≡ map f xs ++ map f ys
map-append {B = B} f [] ys = refl
map-append {B = B} f (x ∷ xs) ys = ap (λ (t : List B). f x ∷ t) (map-append f xs ys)

-- the next call is in place
pub call-placed-next : (old new : OfficeState) (all xs : List Request) (x : Request) (ys : List Request) (held now : TextTold) → all ≡ xs ++ x ∷ ys → AreInPlace old.core.setup old.core.journal (map event.Call all)
    → AllMade old (map event.Call xs) new held now → IsPlaced new.core.journal (event.Call x)
call-placed-next old new all xs x ys held now is p h =
    (rest-placed old new (map event.Call xs) (map event.Call (x ∷ ys)) held now
    (subst (AreInPlace old.core.setup old.core.journal) (ap (map event.Call) is ∙ map-append event.Call xs (x ∷ ys)) p) h).0

-- it is made behind the others
pub call-made : (old mid new : OfficeState) (xs : List Request) (x : Request) (held there now : TextTold) → AllMade old (map event.Call xs) mid held there
    → AllMade mid (event.Call x ∷ []) new there now → AllMade old (map event.Call (xs ++ x ∷ [])) new held now
call-made old mid new xs x held there now h k =
    subst (λ (es : List Event). AllMade old es new held now) (sym (map-append event.Call xs (x ∷ [])))
    (makes-then old mid new (map event.Call xs) (event.Call x ∷ []) held there now (Ok tt) h k)

-- or is not made: neither are those behind it
pub call-early : (old mid new : OfficeState) (all xs : List Request) (x : Request) (ys : List Request) (held there now : TextTold) (e : Early) → all ≡ xs ++ x ∷ ys → AllMade old (map event.Call xs) mid held there
    → Makes mid (event.Call x ∷ []) new there now (Err e) → Makes old (map event.Call all) new held now (Err e)
call-early old mid new all xs x ys held there now e is h k =
    subst (λ (es : List Event). Makes old es new held now (Err e)) (sym (ap (map event.Call) is ∙ map-append event.Call xs (x ∷ ys)))
    (makes-then old mid new (map event.Call xs) (map event.Call (x ∷ ys)) held there now (Err e) h
    (makes-early mid new new (event.Call x ∷ []) (map event.Call ys) there now e k))

-- ---- one event

-- whose entry is written with its number
pub step-counted : (old new : OfficeState) (x : Entry) (e : Event) (held now : TextTold) (n : ℕ) → n ≡ length old.core.journal + 1 → x.event ≡ e → IsLawful old.core.setup (old.core.journal ++ x ∷ [])
    → full old.core.setup old.core.journal e ≡ None → Appends old x new → Gains held now (block n x) → AllMade old (e ∷ []) new held now
step-counted old new x e held now n is event lawful room h w = step-made old new x e held now event lawful room h (subst (λ (k : ℕ). Gains held now (block k x)) is w)

pub cut-counted : (old : OfficeState) (x : Entry) (e : Event) (held now : TextTold) (n : ℕ) → n ≡ length old.core.journal + 1 → x.event ≡ e → IsLawful old.core.setup (old.core.journal ++ x ∷ [])
    → full old.core.setup old.core.journal e ≡ None → GainsFront held now (block n x) → CutOff old (e ∷ []) held now
cut-counted old x e held now n is event lawful room w = step-cut old x e held now event lawful room (subst (λ (k : ℕ). GainsFront held now (block k x)) is w)
