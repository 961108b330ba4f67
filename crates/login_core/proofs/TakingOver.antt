-- Marks are put into the facts, one after the other, and the draft goes on behind them.
use Rattle.std.proofs.Common.{◌≡◌, ℕ, zero, suc, ◌+◌, ◌<◌, ◌≤◌, ◌^◌, ◌∙◌, false, List, [], ◌∷◌, ◌++◌, length, take, drop, get_or, refl, sym, ap, subst, arith}
use Rattle.std.proofs.lemmas.List.{take_more, length-append}
use Rattle.std.specs.List.{AllByRecursion}
use Rattle.login_base.specs.Room.{Room}
use Rattle.login_laws.proofs.JournalLaws.{length-after}
use Rattle.login_laws.proofs.LeftHandles.{handles-are-left}
use Rattle.login_laws.specs.Sound.{Awaits}
use Rattle.login_model.specs.Legal.{trail_of}
use Rattle.login_model.specs.Trail.{Trail, after, was_set}
use Rattle.login_model.specs.declared.fact.Fact.{Fact}
use Rattle.login_model.specs.declared.fact.Key.{Key}
use Rattle.login_model.specs.declared.mark.Entry.{Entry}
use Rattle.login_model.specs.declared.mark.Mark.{Mark}
use Rattle.login_model.specs.declared.mark.Mark.TheVariants.{Set, Say}
use Rattle.login_model.specs.declared.mark.Notice.{Notice}
use Rattle.login_model.specs.declared.mark.Whom.{Whom}
use Rattle.login_table.specs.Appended.{Appends, HasRoom, LeavesRoom, SetsPlain}
use Rattle.switch_core.specs.Handles.{HandlesLeft, IsNumbered}
use Rattle.device_model.specs.declared.ears.Ear.{Ear}
use Rattle.login_core.specs.declared.board.Reach.{Reach}
use Rattle.login_core.specs.inner.Draft.{DraftState, Fits, IsDraft, all_keys, marked_by, with_ears, with_keys, with_trail}
use Rattle.login_laws.specs.Amounts.{Keys, Marks, Part, keys_in, new_in, part}
use Rattle.login_laws.proofs.Widens.{Widens, say-widens, set-widens, widens-refl, widens-trans}
use Rattle.login_table.specs.Home.{home}
use Rattle.login_facts.specs.KeyRooms.{keys_of}
use Rattle.login_facts.specs.declared.key_room.KeyRoom.{KeyRoom}
use Rattle.login_facts.specs.Facts.{Tables, StandFor, StandsForFew, table}
use Rattle.login_core.specs.inner.TakingOver.{CanTakeOver, TakesOver}
use Rattle.login_core.specs.inner.UnderWay.{so_far}
use Rattle.login_facts.proofs.Counting.{handles-bound}
use Rattle.login_core.proofs.Drafting.{keys-say, keys-set, new-here, new-room, part-keys, same-keys, seen}
use Rattle.login_facts.proofs.Standing.{stand-say}

-- ---- one mark

pub can-set : (f : Tables) (m : Mark) (k : Key) (x : Fact) → m ≡ Set k x → CanTakeOver f (m ∷ []) → CanTakeOver f (Set k x ∷ [])
can-set f m k x e c = subst (λ (n : Mark). CanTakeOver f (n ∷ [])) e c

pub can-few : (f : Tables) (m : Mark) → CanTakeOver f (m ∷ []) → StandsForFew StandFor f
can-few f m c = let few = c.few in record { marks = c.trail; stand = c.stands; few = omega arith }

pub can-fresh : (f : Tables) (m : Mark) (k : Key) (x : Fact) → m ≡ Set k x → CanTakeOver f (m ∷ []) → was_set (table f (home k)) k ≡ false → 0 < keys_of (part k) f.fresh
can-fresh f m k x e c new =
    let d = can-set f m k x e c in
    new-room f k x d.trail (keys_in (part k) d.trail + keys_of (part k) f.fresh) d.stands (d.keys (part k)) refl new

-- the setting of a fact, which was read before and put in as a copy
pub takes-set : (f g : Tables) (m : Mark) (k : Key) (x z : Fact) → m ≡ Set k x → z ≡ x → ((t : Trail) → StandFor f t → StandFor g (Set k z ∷ t))
    → f.spare ≡ g.spare + 1 → ((p : Part) → keys_of p f.fresh ≡ keys_of p g.fresh + new_in p (table f (home k)) k) → g.ears ≡ f.ears → g.rings ≡ f.rings → TakesOver f (m ∷ []) g
takes-set f g m k x z e copy stands spare fresh ears rings =
    record {
      stands = λ t h. subst (λ (n : Mark). StandFor g (n ∷ t)) (ap (Set k) copy ∙ sym e) (stands t h);
      spare = omega arith;
      keys = λ t h p. (
          let n = new-here p f t k h in
          let c = keys-set p k x t in
          let q = ap (λ (i : Mark). keys_in p (i ∷ t)) e in
          let left = fresh p in
          omega arith
          );
      ears = ears;
      rings = rings;
    }

pub takes-say : (f : Tables) (m : Mark) (w : Whom) (n : Notice) → m ≡ Say w n → TakesOver f (m ∷ []) f
takes-say f m w n e = record {
  stands = λ t h. subst (λ (k : Mark). StandFor f (k ∷ t)) (sym e) (stand-say f t w n h);
  spare = omega arith;
  keys = λ t h p. (let c = keys-say p w n t in let q = ap (λ (i : Mark). keys_in p (i ∷ t)) e in omega arith);
  ears = refl;
  rings = refl;
}

-- ---- some marks

after-append : (t : Trail) (ms ns : List Mark) → after t (ms ++ ns) ≡ after (after t ms) ns
after-append t [] ns = refl
after-append t (m ∷ ms) ns = after-append (m ∷ t) ms ns

takes-both : (f g h : Tables) (ms ns : List Mark) → TakesOver f ms g → TakesOver g ns h → TakesOver f (ms ++ ns) h
takes-both f g h ms ns a b =
    let one = a.spare in
    let two = b.spare in
    let more = length-append ms ns in
    record {
      stands = λ t w. subst (StandFor h) (sym (after-append t ms ns)) (b.stands (after t ms) (a.stands t w));
      spare = omega arith;
      keys = λ t w p. (
          let one = a.keys t w p in
          let two = b.keys (after t ms) (a.stands t w) p in
          let all = ap (keys_in p) (after-append t ms ns) in
          omega arith
          );
      ears = b.ears ∙ a.ears;
      rings = b.rings ∙ a.rings;
    }

-- with one mark more
pub takes-more : (f g h : Tables) (ms : List Mark) (i : ℕ) (m : Mark) → i < length ms → m ≡ get_or ms i m → TakesOver f (take i ms) g → TakesOver g (m ∷ []) h → TakesOver f (take (i + 1) ms) h
takes-more f g h ms i m l e a b =
    let is : take (i + 1) ms ≡ take i ms ++ m ∷ [] = take_more ms i m l ∙ ap (λ (x : Mark). take i ms ++ x ∷ []) (sym e) in
    subst (λ (ns : List Mark). TakesOver f ns h) (sym is) (takes-both f g h (take i ms) (m ∷ []) a b)

plain-at : (ms : List Mark) (i : ℕ) (m : Mark) → i < length ms → m ≡ get_or ms i m → AllByRecursion SetsPlain ms → SetsPlain m
plain-at [] i m l e p = absurd (omega arith)
plain-at (x ∷ xs) zero m l e p = subst SetsPlain (sym e) p.0
plain-at (x ∷ xs) (suc i) m l e p = plain-at xs i m (omega arith) e p.1

taken : (ms : List Mark) (i : ℕ) → i ≤ length ms → length (take i ms) ≡ i
taken ms zero l = refl
taken [] (suc i) l = absurd (omega arith)
taken (x ∷ xs) (suc i) l = let e = taken xs i (omega arith) in omega arith

-- marks that come only add
mark-widens : (m : Mark) (t : Trail) → Widens t (m ∷ t)
mark-widens (Set k x) t = set-widens k x t
mark-widens (Say w n) t = say-widens w n t

after-widens : (t : Trail) (ms : List Mark) → Widens t (after t ms)
after-widens t [] = widens-refl t
after-widens t (m ∷ ms) = widens-trans t (m ∷ t) (after (m ∷ t) ms) (mark-widens m t) (after-widens (m ∷ t) ms)

-- the next mark sets no more keys than all do
keys-next : (p : Part) (t : Trail) (ms : List Mark) (i : ℕ) (m : Mark) → i < length ms → m ≡ get_or ms i m → keys_in p (after (after t (take i ms)) (m ∷ [])) ≤ keys_in p (after t ms)
keys-next p t [] i m l e = absurd (omega arith)
keys-next p t (x ∷ xs) zero m l e = (let q = ap (λ (n : Mark). keys_in p (n ∷ t)) e in let w : keys_in p (x ∷ t) ≤ keys_in p (after (x ∷ t) xs) = after-widens (x ∷ t) xs (Keys p) in omega arith)
keys-next p t (x ∷ xs) (suc i) m l e = keys-next p (x ∷ t) xs i m (omega arith) e

-- the next one can be put in
pub can-next : (f g : Tables) (ms : List Mark) (i : ℕ) (m : Mark) → i < length ms → m ≡ get_or ms i m → CanTakeOver f ms → TakesOver f (take i ms) g → CanTakeOver g (m ∷ [])
can-next f g ms i m l e c a =
    let n = taken ms i (omega arith) in
    let longer = length-after c.trail (take i ms) in
    let few = c.few in
    let spare = c.spare in
    let left = a.spare in
    record {
      trail = after c.trail (take i ms);
      stands = a.stands c.trail c.stands;
      few = omega arith;
      spare = omega arith;
      keys = λ p. (let b = keys-next p c.trail ms i m l e in let d = a.keys c.trail c.stands p in let all = c.keys p in omega arith);
      plain = (plain-at ms i m l e c.plain, tt);
    }

-- ---- the draft goes on behind what was put at the end of its list

-- a procedure has put its marks at the end of the list of a draft, for which there was room
pub record HasMore (f : Trail → Trail) (es : List Entry) (marks new : Room Mark) (facts : Tables) (made : ℕ) (reach : Reach) (d : DraftState) : Type 0 where
  pub draft : IsDraft (so_far es marks.items) marks facts made reach
  pub view : seen es marks.items facts reach ≡ d
  pub room : Fits f d
  pub appends : Appends f (so_far es marks.items) marks.items new.items
  pub leaves : LeavesRoom f (so_far es marks.items) marks.spare new.spare

fits-inside : (f : Trail → Trail) (es : List Entry) (ms : List Mark) (facts : Tables) (reach : Reach) (d : DraftState) → seen es ms facts reach ≡ d → Fits f d → length (f (so_far es ms)) ≤ reach.entry
fits-inside f es ms facts reach d v h =
    let n = ap (λ (w : DraftState). length (f w.trail)) v in
    let r = ap (λ (w : DraftState). w.reach) v in
    let m : length (f d.trail) ≤ d.reach = h Marks in
    omega arith

-- the list has room for the marks of the procedure
pub has-room : (f : Trail → Trail) (es : List Entry) (marks : Room Mark) (facts : Tables) (made : ℕ) (reach : Reach) (d : DraftState) (t : Trail) → IsDraft (so_far es marks.items) marks facts made reach → seen es marks.items facts reach ≡ d
    → Fits f d → t ≡ so_far es marks.items → HasRoom f t marks.spare
has-room f es marks facts made reach d t draft v h e =
    let inside = fits-inside f es marks.items facts reach d v h in
    let same = ap (λ (u : Trail). length (f u)) e in
    let long = ap length e in
    let counted = draft.counted in
    let fit = draft.marks_fit in
    omega arith

-- and so is there for the keys that it sets
keys-inside : (p : Part) (f : Trail → Trail) (es : List Entry) (ms : List Mark) (facts : Tables) (reach : Reach) (d : DraftState) → seen es ms facts reach ≡ d → Fits f d → keys_in p (f (so_far es ms)) ≤ keys_in p (so_far es ms) + keys_of p facts.fresh
keys-inside p f es ms facts reach d v h =
    let n = ap (λ (w : DraftState). keys_in p (f w.trail)) v in
    let r = sym (part-keys p (so_far es ms) facts.fresh) ∙ ap (λ (w : DraftState). keys_of p w.keys) v in
    let m : keys_in p (f d.trail) ≤ keys_of p d.keys = h (Keys p) in
    omega arith

-- the next handle can be numbered behind them
pub more-numbered : (f : Trail → Trail) (es : List Entry) (marks : Room Mark) (facts : Tables) (made : ℕ) (reach : Reach) (d : DraftState) (t : Trail) → IsDraft (so_far es marks.items) marks facts made reach → seen es marks.items facts reach ≡ d
    → t ≡ so_far es marks.items → Fits f d → IsNumbered (f t)
more-numbered f es marks facts made reach d t draft v e h =
    let inside = fits-inside f es marks.items facts reach d v h in
    let same = ap (λ (u : Trail). length (f u)) e in
    let most = handles-bound (f t) in
    let far = draft.far_enough in
    let numbered = draft.numbered in
    omega arith

-- and so can one for each device that is taken
pub more-handles : (es : List Entry) (marks : Room Mark) (facts : Tables) (made : ℕ) (reach : Reach) (t : Trail) → IsDraft (so_far es marks.items) marks facts made reach → t ≡ so_far es marks.items → HandlesLeft t
more-handles es marks facts made reach t draft e =
    let left = handles-are-left t in
    let long = ap length e in
    let counted = draft.counted in
    let within = draft.within in
    let far = draft.far_enough in
    let numbered = draft.numbered in
    omega arith

-- each pause that is awaited is one of the active session's
pub more-awaits : (es : List Entry) (ms : List Mark) (facts : Tables) (reach : Reach) (d : DraftState) (t : Trail) → seen es ms facts reach ≡ d → t ≡ so_far es ms → Awaits d.trail → Awaits t
more-awaits es ms facts reach d t v e a = subst Awaits (sym (e ∙ ap (λ (w : DraftState). w.trail) v)) a

pub has-more : (f : Trail → Trail) (es : List Entry) (marks new : Room Mark) (facts : Tables) (made : ℕ) (reach : Reach) (d : DraftState) (t : Trail) → IsDraft (so_far es marks.items) marks facts made reach → seen es marks.items facts reach ≡ d
    → Fits f d → t ≡ so_far es marks.items → Appends f t marks.items new.items → LeavesRoom f t marks.spare new.spare → HasMore f es marks new facts made reach d
has-more f es marks new facts made reach d t draft v h e appends leaves = record {
  draft = draft;
  view = v;
  room = h;
  appends = subst (λ (u : Trail). Appends f u marks.items new.items) e appends;
  leaves = subst (λ (u : Trail). LeavesRoom f u marks.spare new.spare) e leaves;
}

drop-front : (ms ns : List Mark) → drop (length ms) (ms ++ ns) ≡ ns
drop-front [] ns = drop-none ns
  where
    drop-none : (xs : List Mark) → drop 0 xs ≡ xs
    drop-none [] = refl
    drop-none (x ∷ xs) = refl
drop-front (m ∷ ms) ns = drop-front ms ns

-- what is behind the list as it was
more : (f : Trail → Trail) (t : Trail) (old new : List Mark) (from : ℕ) (a : Appends f t old new) → from ≡ length old → drop from new ≡ a.marks
more f t old new from a e = ap (λ (n : ℕ). drop n new) e ∙ ap (drop (length old)) a.items ∙ drop-front old a.marks

behind : (f : Trail → Trail) (t : Trail) (old new : List Mark) (from : ℕ) → Appends f t old new → from ≡ length old → after t (drop from new) ≡ f t
behind f t old new from a e = ap (after t) (more f t old new from a e) ∙ a.same

counted : (f : Trail → Trail) (t : Trail) (old new : List Mark) (from : ℕ) → Appends f t old new → from ≡ length old → length t + length (drop from new) ≡ length (f t)
counted f t old new from a e = let n = length-after t (drop from new) in let s = ap length (behind f t old new from a e) in omega arith

lengths : (f : Trail → Trail) (t : Trail) (old new : List Mark) (from : ℕ) → Appends f t old new → from ≡ length old → length (drop from new) + from ≡ length new
lengths f t old new from a e =
    let n = ap length a.items in
    let s = length-append old a.marks in
    let m = ap length (more f t old new from a e) in
    omega arith

pub more-can : (f : Trail → Trail) (es : List Entry) (marks new : Room Mark) (facts : Tables) (made : ℕ) (reach : Reach) (d : DraftState) (from : ℕ) → HasMore f es marks new facts made reach d → from ≡ length marks.items
    → CanTakeOver facts (drop from new.items)
more-can f es marks new facts made reach d from h e =
    let t = so_far es marks.items in
    let draft = h.draft in
    let n = counted f t marks.items new.items from h.appends e in
    let inside = fits-inside f es marks.items facts reach d h.view h.room in
    let made_is = draft.counted in
    let far = draft.far_enough in
    let numbered = draft.numbered in
    let fit = draft.facts_fit in
    record {
      trail = t;
      stands = draft.stands;
      few = omega arith;
      spare = omega arith;
      keys = λ p. (let b = ap (keys_in p) (behind f t marks.items new.items from h.appends e) in let k = keys-inside p f es marks.items facts reach d h.view h.room in omega arith);
      plain = subst (AllByRecursion SetsPlain) (sym (more f t marks.items new.items from h.appends e)) h.appends.plain;
    }

pub more-made : (f : Trail → Trail) (es : List Entry) (marks new : Room Mark) (facts : Tables) (made : ℕ) (reach : Reach) (d : DraftState) (from n : ℕ) → HasMore f es marks new facts made reach d → from ≡ length marks.items
    → n + from ≡ length new.items → made + n < 2 ^ 32
more-made f es marks new facts made reach d from n h e s =
    let t = so_far es marks.items in
    let draft = h.draft in
    let k = counted f t marks.items new.items from h.appends e in
    let l = lengths f t marks.items new.items from h.appends e in
    let inside = fits-inside f es marks.items facts reach d h.view h.room in
    let made_is = draft.counted in
    let far = draft.far_enough in
    let numbered = draft.numbered in
    omega arith

-- the marks so far are those that the procedure leaves
so_far-behind : (f : Trail → Trail) (es : List Entry) (old new : List Mark) → Appends f (so_far es old) old new → so_far es new ≡ f (so_far es old)
unfolding so_far
so_far-behind f es old new a = ap (after (trail_of es)) a.items ∙ after-append (trail_of es) old a.marks ∙ a.same

pub more-draft : (f : Trail → Trail) (es : List Entry) (marks new : Room Mark) (facts tables : Tables) (made : ℕ) (reach : Reach) (d : DraftState) (from n : ℕ) → HasMore f es marks new facts made reach d → from ≡ length marks.items
    → n + from ≡ length new.items → TakesOver facts (drop from new.items) tables → IsDraft (so_far es new.items) new tables (made + n) reach
more-draft f es marks new facts tables made reach d from n h e s o =
    let t = so_far es marks.items in
    let draft = h.draft in
    let is : after t (drop from new.items) ≡ so_far es new.items = behind f t marks.items new.items from h.appends e ∙ sym (so_far-behind f es marks.items new.items h.appends) in
    let k = counted f t marks.items new.items from h.appends e in
    let l = lengths f t marks.items new.items from h.appends e in
    let long = ap length (so_far-behind f es marks.items new.items h.appends) in
    let inside = fits-inside f es marks.items facts reach d h.view h.room in
    let made_is = draft.counted in
    let marks_fit = draft.marks_fit in
    let facts_fit = draft.facts_fit in
    let far = draft.far_enough in
    let leaves = h.leaves in
    let spare = o.spare in
    record {
      stands = subst (StandFor tables) is (o.stands t draft.stands);
      counted = omega arith;
      marks_fit = omega arith;
      facts_fit = omega arith;
      within = omega arith;
      far_enough = draft.far_enough;
      numbered = draft.numbered;
    }

pub more-seen : (f : Trail → Trail) (es : List Entry) (marks new : Room Mark) (facts tables : Tables) (made : ℕ) (reach : Reach) (d : DraftState) (from : ℕ) → HasMore f es marks new facts made reach d
    → from ≡ length marks.items → TakesOver facts (drop from new.items) tables → seen es new.items tables reach ≡ marked_by f d
more-seen f es marks new facts tables made reach d from h e o =
    let s = seen es marks.items facts reach in
    let t = so_far es marks.items in
    let k = same-keys (f t) t tables.fresh facts.fresh (λ p. (let b = ap (keys_in p) (behind f t marks.items new.items from h.appends e) in let q = o.keys t h.draft.stands p in omega arith)) in
    ap (λ (u : Trail). with_ears tables.ears tables.rings (with_keys (all_keys u tables.fresh) (with_trail s u))) (so_far-behind f es marks.items new.items h.appends)
    ∙ ap (λ (n : KeyRoom). with_ears tables.ears tables.rings (with_keys n (with_trail s (f t)))) k
    ∙ ap (λ (ears : List Ear). with_ears ears tables.rings (with_trail s (f t))) o.ears
    ∙ ap (λ (n : ℕ). with_ears facts.ears n (with_trail s (f t))) o.rings
    ∙ ap (λ (w : DraftState). marked_by f w) h.view
