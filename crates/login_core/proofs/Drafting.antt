-- A draft with one mark more.
use Rattle.std.proofs.Common.{◌≡◌, ℕ, ◌+◌, ◌<◌, ◌≤◌, ◌∙◌, [], ◌∷◌, ◌++◌, List, Bool, false, cond, refl, sym, ap, subst, length, add-one, arith}
use Rattle.login_base.specs.Room.{Room}
use Rattle.login_model.specs.Same.{same_fact}
use Rattle.login_model.specs.Trail.{Trail, value, put, after, was_set}
use Rattle.login_model.specs.Legal.{trail_of}
use Rattle.login_model.specs.declared.fact.Key.{Key}
use Rattle.login_model.specs.declared.fact.Fact.{Fact}
use Rattle.login_model.specs.declared.mark.Mark.{Mark}
use Rattle.login_model.specs.declared.mark.Mark.TheVariants.{Set, Say}
use Rattle.login_model.specs.declared.mark.Whom.{Whom}
use Rattle.login_model.specs.declared.mark.Notice.{Notice}
use Rattle.login_model.specs.declared.mark.Entry.{Entry}
use Rattle.device_model.specs.declared.ears.Ear.{Ear}
use Rattle.login_core.specs.declared.board.Reach.{Reach}
use Rattle.login_laws.specs.Amounts.{Keys, Marks, OfOthers, OfTaken, Part, counts_in, keys_in, new_in, part}
use Rattle.login_facts.specs.KeyRooms.{keys_of}
use Rattle.login_facts.specs.declared.key_room.KeyRoom.{KeyRoom}
use Rattle.login_facts.specs.Facts.{Tables, StandFor, table}
use Rattle.login_table.specs.Home.{home}
use Rattle.login_core.specs.inner.UnderWay.{so_far}
use Rattle.login_core.specs.inner.Draft.{DraftState, Fits, IsDraft, all_keys, tell, with_ears, with_keys, with_trail}
use Rattle.login_laws.proofs.JournalLaws.{length-after}
use Rattle.login_table.proofs.Appending.{put-made}
use Rattle.login_facts.proofs.Standing.{opened}
use Rattle.login_core.proofs.UnderWay.{so_far-more, so_far-start, so_far-closed}

-- what a draft of these parts is seen as
abbrev pub seen : List Entry → List Mark → Tables → Reach → DraftState
seen es ms f reach = record { before = trail_of es; trail = so_far es ms; reach = reach.entry; far = reach.all; keys = all_keys (so_far es ms) f.fresh; ears = f.ears; rings = f.rings }

pub more : (es : List Entry) (ms ns : List Mark) (x : Mark) → ns ≡ ms ++ x ∷ [] → so_far es ns ≡ x ∷ so_far es ms
more es ms ns x e = ap (so_far es) e ∙ so_far-more es ms x

-- where each part has as many keys, all have
pub same-keys : (t u : Trail) (new old : KeyRoom) → ((p : Part) → keys_in p t + keys_of p new ≡ keys_in p u + keys_of p old) → all_keys t new ≡ all_keys u old
same-keys t u new old e = λ i. record { taken = e OfTaken i; others = e OfOthers i }

-- the keys for which there is room are those of each part
pub part-keys : (p : Part) (t : Trail) (fresh : KeyRoom) → keys_of p (all_keys t fresh) ≡ keys_in p t + keys_of p fresh
part-keys OfTaken t fresh = refl
part-keys OfOthers t fresh = refl

pub seen-more : (es : List Entry) (ms ns : List Mark) (f g : Tables) (reach : Reach) (x : Mark) (d : DraftState) → seen es ms f reach ≡ d → ns ≡ ms ++ x ∷ [] → g.ears ≡ f.ears → g.rings ≡ f.rings
    → ((p : Part) → keys_in p (x ∷ so_far es ms) + keys_of p g.fresh ≡ keys_in p (so_far es ms) + keys_of p f.fresh) → seen es ns g reach ≡ with_trail d (x ∷ d.trail)
seen-more es ms ns f g reach x d v e p q k =
    let s = seen es ms f reach in
    ap (λ (t : Trail). with_ears g.ears g.rings (with_keys (all_keys t g.fresh) (with_trail s t))) (more es ms ns x e)
    ∙ ap (λ (n : KeyRoom). with_ears g.ears g.rings (with_keys n (with_trail s (x ∷ s.trail)))) (same-keys (x ∷ so_far es ms) (so_far es ms) g.fresh f.fresh k)
    ∙ ap (λ (ears : List Ear). with_ears ears g.rings (with_trail s (x ∷ s.trail))) p
    ∙ ap (λ (n : ℕ). with_ears f.ears n (with_trail s (x ∷ s.trail))) q
    ∙ ap (λ (w : DraftState). with_trail w (x ∷ w.trail)) v

-- a setting that is made wants one mark
pub one-more : (k : Key) (x : Fact) (d : DraftState) → same_fact (value d.trail k) x ≡ false → Fits (put k x) d → length d.trail + 1 ≤ d.reach
one-more k x d other room = let e = ap length (put-made k x d.trail other) in let f : length (Set k x ∷ d.trail) ≡ length d.trail + 1 = sym (add-one (length d.trail)) in let m : length (put k x d.trail) ≤ d.reach = room Marks in omega arith

-- and so does a notice
pub said-room : (w : Whom) (n : Notice) (d : DraftState) → Fits (tell w n) d → length d.trail + 1 ≤ d.reach
said-room w n d room = let f : length (Say w n ∷ d.trail) ≡ length d.trail + 1 = sym (add-one (length d.trail)) in let m : length (tell w n d.trail) ≤ d.reach = room Marks in omega arith

-- a setting of a new key counts as one key more in its part, another as none
pub keys-set : (p : Part) (k : Key) (x : Fact) (t : Trail) → keys_in p (Set k x ∷ t) ≡ keys_in p t + new_in p t k
unfolding keys_in
keys-set p k x t = refl

pub keys-say : (p : Part) (w : Whom) (n : Notice) (t : Trail) → keys_in p (Say w n ∷ t) ≡ keys_in p t
unfolding keys_in
keys-say p w n t = refl

own-counts_in : (p : Part) → counts_in p p ≡ 1
own-counts_in OfTaken = refl
own-counts_in OfOthers = refl

-- in its own part it counts
new-own : (t : Trail) (k : Key) → was_set t k ≡ false → new_in (part k) t k ≡ 1
new-own t k e = ap (λ (b : Bool). cond b 0 (counts_in (part k) (part k))) e ∙ own-counts_in (part k)

-- a table has the keys that were set, so what is new to it is new
pub new-here : (p : Part) (f : Tables) (t : Trail) (k : Key) → StandFor f t → new_in p (table f (home k)) k ≡ new_in p t k
new-here p f t k s = ap (λ (b : Bool). cond b 0 (counts_in p (part k))) ((opened f t s).keys k)

-- a new key that is set has room in its table, where there is room for so many
pub new-room : (f : Tables) (k : Key) (x : Fact) (t : Trail) (n : ℕ) → StandFor f t → keys_in (part k) (Set k x ∷ t) ≤ n → n ≡ keys_in (part k) t + keys_of (part k) f.fresh → was_set (table f (home k)) k ≡ false → 0 < keys_of (part k) f.fresh
new-room f k x t n s l e new =
    let one = new-own t k (sym ((opened f t s).keys k) ∙ new) in
    let c = keys-set (part k) k x t in
    omega arith

pub fresh-room : (f : Tables) (k : Key) (x : Fact) (t : Trail) (d : DraftState) → StandFor f t → t ≡ d.trail → all_keys t f.fresh ≡ d.keys → same_fact (value d.trail k) x ≡ false → Fits (put k x) d
    → was_set (table f (home k)) k ≡ false → 0 < keys_of (part k) f.fresh
fresh-room f k x t d s e keys other room new =
    let p = part k in
    let m : keys_in p (put k x d.trail) ≤ keys_of p d.keys = room (Keys p) in
    let made = ap (keys_in p) (put-made k x d.trail other) in
    let here = ap (λ (u : Trail). keys_in p (Set k x ∷ u)) e in
    let all = sym (part-keys p t f.fresh) ∙ ap (keys_of p) keys in
    new-room f k x t (keys_of p d.keys) s (omega arith) (sym all) new

-- there is room for one mark more
pub room-inside : (es : List Entry) (ms : List Mark) (f : Tables) (reach : Reach) (d : DraftState) → seen es ms f reach ≡ d → length d.trail + 1 ≤ d.reach → length (so_far es ms) + 1 ≤ reach.entry
room-inside es ms f reach d v h =
    let n = ap (λ (w : DraftState). length w.trail) v in
    let r = ap (λ (w : DraftState). w.reach) v in
    omega arith

pub draft-more : (es : List Entry) (marks new : Room Mark) (facts tables : Tables) (made : ℕ) (reach : Reach) (x : Mark) → IsDraft (so_far es marks.items) marks facts made reach → length (so_far es marks.items) + 1 ≤ reach.entry
    → new.items ≡ marks.items ++ x ∷ [] → marks.spare ≤ new.spare + 1 → facts.spare ≤ tables.spare + 1 → StandFor tables (x ∷ so_far es marks.items)
    → IsDraft (so_far es new.items) new tables (made + 1) reach
draft-more es marks new facts tables made reach x d room e m f s =
    let u = more es marks.items new.items x e in
    let n : length (so_far es new.items) ≡ length (so_far es marks.items) + 1 = ap length u ∙ sym (add-one (length (so_far es marks.items))) in
    let counted = d.counted in
    let marks_fit = d.marks_fit in
    let facts_fit = d.facts_fit in
    let far = d.far_enough in
    record {
      stands = subst (StandFor tables) (sym u) s;
      counted = omega arith;
      marks_fit = omega arith;
      facts_fit = omega arith;
      within = omega arith;
      far_enough = d.far_enough;
      numbered = d.numbered;
    }

-- ---- a draft goes on behind its entry

pub nothing-marked : (es : List Entry) (ms : List Mark) → es ≡ [] → ms ≡ [] → so_far es ms ≡ []
nothing-marked es ms b c = ap (λ (xs : List Entry). so_far xs ms) b ∙ ap (so_far []) c ∙ so_far-start

pub so_far-same : (es fs : List Entry) (ms : List Mark) → trail_of es ≡ trail_of fs → so_far es ms ≡ so_far fs ms
unfolding so_far
so_far-same es fs ms e = ap (λ (t : Trail). after t ms) e

pub so_far-length : (es : List Entry) (ms : List Mark) → length (so_far es ms) ≡ length (trail_of es) + length ms
unfolding so_far
so_far-length es ms = length-after (trail_of es) ms

-- what an entry's marks were is among the journal's now
pub closed : (old new : List Entry) (e : Entry) (ms none : List Mark) → new ≡ old ++ e ∷ [] → none ≡ [] → e.marks ≡ ms → so_far new none ≡ so_far old ms
closed old new e ms none p q r = ap (so_far new) q ∙ ap (λ (es : List Entry). so_far es []) p ∙ so_far-closed old e ∙ ap (so_far old) r

-- the entry that is closed has the marks of the draft, which goes on behind the journal that has it
pub record ClosesBehind (before old new : List Entry) (e : Entry) (marks blank : Room Mark) : Type 0 where
  pub behind : trail_of before ≡ trail_of old
  pub entry : new ≡ old ++ e ∷ []
  pub marks_are : e.marks ≡ marks.items
  pub blank_is : blank.items ≡ []

pub closed-trail : (before old new : List Entry) (e : Entry) (marks blank : Room Mark) → ClosesBehind before old new e marks blank → so_far new blank.items ≡ so_far before marks.items
closed-trail before old new e marks blank b = closed old new e marks.items blank.items b.entry b.blank_is b.marks_are ∙ sym (so_far-same before old marks.items b.behind)

pub draft-closed : (before old new : List Entry) (e : Entry) (marks blank : Room Mark) (facts : Tables) (made : ℕ) (reach : Reach) → IsDraft (so_far before marks.items) marks facts made reach
    → ClosesBehind before old new e marks blank → IsDraft (so_far new blank.items) blank facts made (record reach { entry = made })
draft-closed before old new e marks blank facts made reach d b =
    let t = closed-trail before old new e marks blank b in
    let n = ap length t in
    let counted = d.counted in
    let within = d.within in
    let far = d.far_enough in
    record {
      stands = subst (StandFor facts) (sym t) d.stands;
      counted = omega arith;
      marks_fit = omega arith;
      facts_fit = d.facts_fit;
      within = omega arith;
      far_enough = omega arith;
      numbered = d.numbered;
    }

-- ---- an empty list of the entry under way is another

-- no marks were made
pub none-made : (es : List Entry) (ms : List Mark) (f : Tables) (reach : Reach) (d : DraftState) → seen es ms f reach ≡ d → d.trail ≡ d.before → ms ≡ []
none-made es ms f reach d v e =
    let t : so_far es ms ≡ trail_of es = ap (λ (w : DraftState). w.trail) v ∙ e ∙ sym (ap (λ (w : DraftState). w.before) v) in
    let n = ap length t in
    let l = so_far-length es ms in
    none ms (omega arith)
  where
    none : (xs : List Mark) → length xs ≡ 0 → xs ≡ []
    none [] z = refl
    none (x ∷ xs) z = absurd (omega arith)

-- a list that is no narrower than the entry's marks may want
pub draft-changed : (es : List Entry) (marks new : Room Mark) (facts : Tables) (made : ℕ) (reach : Reach) (entry : ℕ) → IsDraft (so_far es marks.items) marks facts made reach → new.items ≡ marks.items
    → made ≤ entry → entry ≤ made + new.spare → entry ≤ reach.all → IsDraft (so_far es new.items) new facts made (record reach { entry = entry })
draft-changed es marks new facts made reach entry d e within fit far =
    let t = ap (so_far es) e in
    let n = ap length t in
    let counted = d.counted in
    record {
      stands = subst (StandFor facts) (sym t) d.stands;
      counted = omega arith;
      marks_fit = fit;
      facts_fit = d.facts_fit;
      within = within;
      far_enough = far;
      numbered = d.numbered;
    }
