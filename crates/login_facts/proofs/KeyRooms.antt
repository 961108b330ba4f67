-- Where a key goes into its table, the room of its own part is less by one where it is new, and that of the other as before.
use Rattle.std.proofs.Common.{◌≡◌, ◌<◌, ◌+◌, ◌-◌, ℕ, Bool, true, false, not, cond, refl, ap, sym, ◌∙◌, arith}
use Rattle.login_model.specs.declared.fact.Key.{Key}
use Rattle.login_model.specs.declared.fact.Key.TheVariants as key
use Rattle.login_model.specs.Trail.{was_set}
use Rattle.login_laws.specs.Amounts.{OfOthers, OfTaken, Part, counts_in, new_in, part}
use Rattle.login_table.specs.Home.{home}
use Rattle.login_table.specs.declared.home.Home.{Home}
use Rattle.login_table.specs.declared.home.Home.TheVariants.{Takes}
use Rattle.login_facts.specs.KeyRooms.{keys_of}
use Rattle.login_facts.specs.declared.key_room.KeyRoom.{KeyRoom}
use Rattle.login_facts.specs.Facts.{Tables, table}

-- the part of the keys that have their home in a table
abbrev pub part_at : Home → Part
part_at Takes = OfTaken
part_at _ = OfOthers

part-home : (k : Key) → part k ≡ part_at (home k)
part-home (key.Taken s d) = refl
part-home (key.Owner h) = refl
part-home (key.Live h) = refl
part-home (key.Awaited s d) = refl
part-home _ = refl

-- a key is put into a table, which says whether it was new there
pub record GoesIn (f : Tables) (k : Key) (h : Home) (is_new : Bool) : Type 0 where
  pub at_home : home k ≡ h
  pub new : is_new ≡ not (was_set (table f h) k)

-- where it is new, there is room for it
pub goes-room : (f : Tables) (k : Key) (h : Home) (is_new : Bool) → GoesIn f k h is_new → (was_set (table f (home k)) k ≡ false → 0 < keys_of (part k) f.fresh) → is_new ≡ true → 0 < keys_of (part_at h) f.fresh
goes-room f k h is_new g room e =
    let p : part k ≡ part_at h = part-home k ∙ ap part_at g.at_home in
    let same = ap (λ (q : Part). keys_of q f.fresh) p in
    let r = room (ap (λ (i : Home). was_set (table f i) k) g.at_home ∙ by (was_set (table f h) k) (sym g.new ∙ e)) in
    omega arith
  where
    by : (w : Bool) → not w ≡ true → w ≡ false
    by true z = sym z
    by false z = refl

own-count : (w : Bool) (c : ℕ) → c ≡ 1 → cond w 0 c ≡ cond (not w) 1 0
own-count true c e = refl
own-count false c e = e

other-count : (w : Bool) (c : ℕ) → c ≡ 0 → cond w 0 c ≡ 0
other-count true c e = refl
other-count false c e = e

-- how many keys of each part it is
goes-own : (f : Tables) (k : Key) (h : Home) (is_new : Bool) → GoesIn f k h is_new → (p : Part) → counts_in p (part_at h) ≡ 1 → new_in p (table f (home k)) k ≡ cond is_new 1 0
goes-own f k h is_new g p one =
    let e = ap (counts_in p) (part-home k ∙ ap part_at g.at_home) ∙ one in
    ap (λ (i : Home). new_in p (table f i) k) g.at_home ∙ own-count (was_set (table f h) k) (counts_in p (part k)) e ∙ ap (λ (b : Bool). cond b 1 0) (sym g.new)

goes-other : (f : Tables) (k : Key) (h : Home) (is_new : Bool) → GoesIn f k h is_new → (p : Part) → counts_in p (part_at h) ≡ 0 → new_in p (table f (home k)) k ≡ 0
goes-other f k h is_new g p none =
    let e = ap (counts_in p) (part-home k ∙ ap part_at g.at_home) ∙ none in
    ap (λ (i : Home). new_in p (table f i) k) g.at_home ∙ other-count (was_set (table f h) k) (counts_in p (part k)) e

pub others-left : (f : Tables) (r : KeyRoom) (k : Key) (h : Home) (is_new : Bool) (n : ℕ) → part_at h ≡ OfOthers → r ≡ f.fresh → GoesIn f k h is_new → r.others ≡ n + cond is_new 1 0
    → (p : Part) → keys_of p f.fresh ≡ keys_of p (record { taken = r.taken; others = n }) + new_in p (table f (home k)) k
others-left f r k h is_new n o e g left OfTaken =
    (let a = goes-other f k h is_new g OfTaken (ap (counts_in OfTaken) o) in
    let b = ap (λ (x : KeyRoom). x.taken) e in
    omega arith)
others-left f r k h is_new n o e g left OfOthers =
    (let a = goes-own f k h is_new g OfOthers (ap (counts_in OfOthers) o) in
    let b = ap (λ (x : KeyRoom). x.others) e in
    omega arith)

pub taken-left : (f : Tables) (r : KeyRoom) (k : Key) (is_new : Bool) (n : ℕ) → r ≡ f.fresh → GoesIn f k Takes is_new → r.taken ≡ n + cond is_new 1 0
    → (p : Part) → keys_of p f.fresh ≡ keys_of p (record { taken = n; others = r.others }) + new_in p (table f (home k)) k
taken-left f r k is_new n e g left OfTaken =
    (let a = goes-own f k Takes is_new g OfTaken refl in
    let b = ap (λ (x : KeyRoom). x.taken) e in
    omega arith)
taken-left f r k is_new n e g left OfOthers =
    (let a = goes-other f k Takes is_new g OfOthers refl in
    let b = ap (λ (x : KeyRoom). x.others) e in
    omega arith)
