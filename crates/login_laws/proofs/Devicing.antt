-- Devices that are taken, and that come and go.
use Rattle.std.proofs.Common.{◌≡◌, ◌<◌, ◌↔◌, ℕ, ◌||◌, Bool, true, false, cond, Some, List, [], ◌∷◌, refl, ap, sym, ◌∙◌, subst, arith, ◌⊎◌, inl, inr}
use Rattle.std.specs.List.{list_any}
use Rattle.std.specs.Str.{bytes_eq}
use Rattle.login_base.specs.declared.ids.ConnId.{ConnId}
use Rattle.login_base.specs.declared.ids.DevNo.{DevNo}
use Rattle.login_base.specs.declared.ids.HandleNo.{HandleNo}
use Rattle.login_base.specs.declared.ids.SessId.{SessId}
use Rattle.login_model.specs.Fresh.{fresh_handle, is_open_fact, next_handle}
use Rattle.login_model.specs.Names.{device_in, device_lt, names}
use Rattle.login_model.specs.Devices.{is_handle_fact, is_taken}
use Rattle.login_model.specs.Procedure.{each, kill, no, revoke, shut, yes}
use Rattle.login_model.specs.Same.{same_key}
use Rattle.login_laws.specs.Shapes.{fits_key}
use Rattle.login_model.specs.Start.{seat0}
use Rattle.login_model.specs.Facts.{is_graphics_on}
use Rattle.login_model.specs.Taking.{acknowledge, add_device, appear_seat, enliven, has_graphics, lose_seat, remove_device, set_mode, take_device, takers}
use Rattle.login_model.specs.Trail.{Trail, put, tell_all, value}
use Rattle.login_model.specs.Where.{devices, is_active, is_device, is_device_fact, is_on_seat, is_seat, is_seat_fact, is_set, is_this_seat, seat_in_fact, sessions, sessions_on}
use Rattle.login_model.specs.declared.fact.Fact.{Fact}
use Rattle.login_model.specs.declared.fact.Fact.TheVariants as fact
use Rattle.login_model.specs.declared.fact.Key.TheVariants as key
use Rattle.login_model.specs.declared.fact.Owner.TheVariants as owner
use Rattle.login_model.specs.declared.hardware.DevKind.{DevKind}
use Rattle.login_model.specs.declared.hardware.DevKind.TheVariants.{Drm, Evdev}
use Rattle.login_model.specs.declared.mark.Notice.TheVariants.{SeatNew, SeatRemoved}
use Rattle.login_model.specs.declared.mark.Whom.TheVariants.{All}
use Rattle.login_laws.proofs.ActiveLaws.{active-gives}
use Rattle.login_laws.proofs.Closing.{ShutAll, shut-all-refl, shut-does, shut-each, shut-one}
use Rattle.login_laws.proofs.DeviceSteps.{Fresh, handle-one, holds-dead, holds-live, holds-unawaited, owner-kept}
use Rattle.login_laws.proofs.Giving.{Fewer, Good, fewer-each, good-put, good-say, opened-given, revoke-gives-up}
use Rattle.login_laws.proofs.Holds.{Activated, Exempt, Graphical, Having, Holds, OnSeat, Opened, none_out, holds-all, holds-more, shaped-put}
use Rattle.login_model.proofs.InOrder.{IsIn, devices-enumerated, filter-keeps}
use Rattle.login_model.proofs.Keys.{same-bytes, same_key-true, test}
use Rattle.login_laws.proofs.Loops.{each-does, in-sessions}
use Rattle.login_laws.proofs.SessionSteps.{open-there}
use Rattle.login_laws.proofs.UnusedLaws.{handle-new, put-handles, unused-handle, unused-plain, unused-session, unused-start}
use Rattle.login_model.proofs.Values.{Facts, apart, bytes-refl, given, taken-one, true-false, upd, upd-other, upd-same, value-put, values-put}

-- ---- a device is taken

abbrev pub took : ConnId → SessId → DevNo → HandleNo → Facts → Facts
took c s d n f = upd (key.Taken s d) (fact.Handle n) (upd (key.Owner n) (fact.Owned (owner.Device c s d)) f)

-- what the taking of a device wants
pub record MayTake (c : ConnId) (s : SessId) (d : DevNo) (n : HandleNo) (f : Facts) : Type 0 where
  pub kind : DevKind
  pub seat : List ℕ
  pub opened : Opened f s
  pub controls : f (key.Ctl s) ≡ fact.Controller c
  pub present : f (key.Dev d) ≡ fact.Device kind seat
  pub on_seat : OnSeat f s seat
  pub free : (h : HandleNo) → f (key.Taken s d) ≡ fact.Handle h → ⊥
  pub new : Fresh f n
  pub dead : is_set (f (key.Live n)) ≡ false

pub holds-took : (out : Exempt) (c : ConnId) (s : SessId) (d : DevNo) (n : HandleNo) (f : Facts) → MayTake c s d n f → Holds out f → Holds out (took c s d n f)
holds-took out c s d n f m w =
    let o = fact.Owned (owner.Device c s d) in
    let g = upd (key.Owner n) o f in
    let u = took c s d n f in
    let mine : Having u s d n = (c, m.kind, m.seat, m.opened, m.controls, m.present, m.on_seat, upd-same (key.Owner n) o f) in
    let other = λ (r : SessId) (e : DevNo) (h : HandleNo) (p : f (key.Taken r e) ≡ fact.Handle h). (let z : upd (key.Taken s d) (fact.Handle n) f (key.Taken r e) ≡ f (key.Taken r e) =
    upd-other (key.Taken s d) (key.Taken r e) (fact.Handle n) f (apart (key.Taken s d) (key.Taken r e) (λ q. m.free h (ap f q ∙ p))) in z) in
    record {
      shaped = shaped-put (key.Taken s d) (fact.Handle n) g (shaped-put (key.Owner n) o f w.shaped refl) refl;
      controls = w.controls;
      fifos = λ r p q. (let i = w.fifos r p q in (i.0, owner-kept f n _ o (owner.Fifo i.0 r) m.new i.1, i.2));
      takes = λ r e v p. elim (given (key.Taken s d) (key.Taken r e) (fact.Handle n) (fact.Handle v) f p) [
        | inl q ↦ (let k = taken-one s r d e q.0 in
            let P : SessId → Type 0 = λ x. Having u x d n in let Q : DevNo → Type 0 = λ x. Having u r x n in let R : HandleNo → Type 0 = λ x. Having u r e x in
            subst R (handle-one n v q.1) (subst Q k.1 (subst P k.0 mine)))
        | inr q ↦ (let j = w.takes r e v q.1 in (j.0, j.1, j.2, j.3, j.4, j.5, j.6, owner-kept f n v o (owner.Device j.0 r e) m.new j.7))
      ];
      lives = λ v p. (let j = w.lives v p in
          (j.0, j.1, j.2, owner-kept f n v o (owner.Device j.0 j.1 j.2) m.new j.3, other j.1 j.2 v j.4 ∙ j.4, j.5));
      awaits = λ r e p. (let j = w.awaits r e p in (j.0, other r e j.0 j.1 ∙ j.1, j.2, j.3, j.4));
      terminals = w.terminals;
      seats = w.seats;
      locks = λ l x e. (let j = w.locks l x e in (j.0, j.1, owner-kept f n j.1 o (owner.Lock x.holder l) m.new j.2));
      operation = w.operation;
      users = w.users;
    }

pub good-took : (out : Exempt) (c : ConnId) (s : SessId) (d : DevNo) (t : Trail) → MayTake c s d (next_handle t) (value t) → Good out t
    → Good out (put (key.Taken s d) (fact.Handle (next_handle t)) (put (key.Owner (next_handle t)) (fact.Owned (owner.Device c s d)) t))
good-took out c s d t m g =
    let n = next_handle t in
    let o = fact.Owned (owner.Device c s d) in
    let p = put (key.Owner n) o t in
    let path : value (put (key.Taken s d) (fact.Handle n) p) ≡ took c s d n (value t) =
    values-put (key.Taken s d) (fact.Handle n) p ∙ ap (upd (key.Taken s d) (fact.Handle n)) (values-put (key.Owner n) o t) in
    let P : Facts → Type 0 = λ f. Holds out f in
    let grown = handle-new n o t m.new refl refl in
    let a1 = unused-handle (key.Owner n) o n t refl refl (omega arith) refl g.unused in
    let open_now : Opened (value p) s = ap is_open_fact (value-put (key.Owner n) (key.Sess s) o t) ∙ m.opened in
    record { holds = subst P (sym path) (holds-took out c s d n (value t) m g.holds); unused = unused-session (key.Taken s d) (fact.Handle n) s p refl refl (opened-given s p a1 open_now) a1 }

live-by : (b : Bool) (out : Exempt) (s : SessId) (d : DevNo) (n : HandleNo) (t : Trail) → value t (key.Taken s d) ≡ fact.Handle n → n.0 < fresh_handle t → (b ≡ true → Activated (value t) s) → Good out t → Good out (enliven n b t)
live-by true out s d n t e below a g =
    (let more = put-handles (key.Live n) yes t in
    good-put out (key.Live n) yes t (holds-live out s d n (value t) e (a refl) g.holds) (unused-handle (key.Live n) yes n t refl refl (omega arith) tt g.unused))
live-by false out s d n t e below a g = g

pub good-take : (out : Exempt) (c : ConnId) (s : SessId) (d : DevNo) (t : Trail) → MayTake c s d (next_handle t) (value t) → Good out t → Good out (take_device c s d (next_handle t) t)
unfolding take_device
good-take out c s d t m g =
    let n = next_handle t in
    let o = fact.Owned (owner.Device c s d) in
    let p = put (key.Owner n) o t in
    let u = put (key.Taken s d) (fact.Handle n) p in
    let w = good-took out c s d t m g in
    let path : value u ≡ took c s d n (value t) = values-put (key.Taken s d) (fact.Handle n) p ∙ ap (upd (key.Taken s d) (fact.Handle n)) (values-put (key.Owner n) o t) in
    let grown = handle-new n o t m.new refl refl in
    let same = put-handles (key.Taken s d) (fact.Handle n) p in
    live-by (is_active t s) out s d n u (value-put (key.Taken s d) (key.Taken s d) (fact.Handle n) p ∙ upd-same (key.Taken s d) (fact.Handle n) (value p)) (omega arith)
    (λ e. (let P : Facts → Type 0 = λ f. Activated f s in subst P (sym path) (active-gives t s e))) w

-- ---- a pause is acknowledged

kill-unawaited : (x : Fact) (out : Exempt) (s : SessId) (d : DevNo) (t : Trail) → value t (key.Taken s d) ≡ x → (is_set (value t (key.Awaited s d)) ≡ true → ⊥) → Good out t → Good out (kill x t)
kill-unawaited (fact.Handle h) out s d t e n g = good-put out (key.Live h) no t (holds-dead out s d h (value t) e n g.holds) (unused-start (key.Live h) t tt g.unused)
kill-unawaited _ out s d t e n g = g

acknowledge-by : (b : Bool) (out : Exempt) (s : SessId) (d : DevNo) (t : Trail) → Good out t → Good out (cond b (kill (value t (key.Taken s d)) (put (key.Awaited s d) no t)) t)
acknowledge-by true out s d t g =
    (let u = put (key.Awaited s d) no t in
    let w = good-put out (key.Awaited s d) no t (holds-unawaited out s d (value t) g.holds) (unused-start (key.Awaited s d) t tt g.unused) in
    kill-unawaited (value t (key.Taken s d)) out s d u (value-put (key.Awaited s d) (key.Taken s d) no t)
    (λ e. (let z : is_set no ≡ true = ap is_set (sym (value-put (key.Awaited s d) (key.Awaited s d) no t ∙ upd-same (key.Awaited s d) no (value t))) ∙ e in cc)) w)
acknowledge-by false out s d t g = g

pub good-acknowledge : (out : Exempt) (s : SessId) (d : DevNo) (t : Trail) → Good out t → Good out (acknowledge s d t)
unfolding acknowledge
good-acknowledge out s d t g = acknowledge-by (is_set (value t (key.Awaited s d))) out s d t g

-- ---- the mode

holds-mode : (out : Exempt) (d : DevNo) (n : ℕ) (f : Facts) → Holds out f → Holds out (upd (key.Mode d) (fact.Number n) f)
holds-mode out d n f w = record {
  shaped = shaped-put (key.Mode d) (fact.Number n) f w.shaped refl;
  controls = w.controls;
  fifos = w.fifos;
  takes = w.takes;
  lives = w.lives;
  awaits = w.awaits;
  terminals = w.terminals;
  seats = w.seats;
  locks = w.locks;
  operation = w.operation;
  users = w.users;
}

pub good-mode-put : (out : Exempt) (d : DevNo) (n : ℕ) (t : Trail) → Good out t → Good out (put (key.Mode d) (fact.Number n) t)
good-mode-put out d n t g = good-put out (key.Mode d) (fact.Number n) t (holds-mode out d n (value t) g.holds) (unused-plain (key.Mode d) (fact.Number n) t refl refl refl g.unused)

pub good-mode : (x : Fact) (out : Exempt) (n : ℕ) (t : Trail) → Good out t → Good out (set_mode x n t)
good-mode (fact.Owned (owner.Device c s d)) out n t g = good-mode-put out d n t g
good-mode _ out n t g = g

-- ---- a device comes or goes

-- all seats but this
abbrev pub but_seat : List ℕ → Exempt
but_seat seat = ((λ s. false), (λ u. false), (λ name. bytes_eq name seat))

pub good-more : (seat : List ℕ) (t : Trail) → Good none_out t → Good (but_seat seat) t
good-more seat t g = record { holds = holds-more none_out (but_seat seat) (value t) (λ s e. refl) (λ u e. refl) (λ n e. refl) g.holds; unused = g.unused }

-- a device that nobody has taken is set; the seats where it was and will be are exempt
holds-dev : (out : Exempt) (d : DevNo) (x : Fact) (f : Facts) → fits_key (key.Dev d) x ≡ true → ((s : SessId) (h : HandleNo) → f (key.Taken s d) ≡ fact.Handle h → ⊥)
    → ((seat : List ℕ) → f (key.Dev d) ≡ fact.Device Drm seat → out.2 seat ≡ true) → ((seat : List ℕ) → x ≡ fact.Device Drm seat → out.2 seat ≡ true)
    → Holds out f → Holds out (upd (key.Dev d) x f)
holds-dev out d x f fits free old new w = record {
  shaped = shaped-put (key.Dev d) x f w.shaped fits;
  controls = w.controls;
  fifos = w.fifos;
  takes = λ s e h p. (let i = w.takes s e h p in
      (i.0, i.1, i.2, i.3, i.4, upd-other (key.Dev d) (key.Dev e) x f (apart (key.Dev d) (key.Dev e) (λ q. free s h (ap (λ (v : DevNo). f (key.Taken s v)) (dev-one d e q) ∙ p))) ∙ i.5, i.6, i.7));
  lives = w.lives;
  awaits = w.awaits;
  terminals = w.terminals;
  seats = (
    w.seats.0,
    (λ seat e n. (let i = w.seats.1 seat e n in (
      (λ p. (let q = i.0 p in (q.0, upd-other (key.Dev d) (key.Dev q.0) x f (apart (key.Dev d) (key.Dev q.0) (λ z. true-false (out.2 seat) (old seat (ap f z ∙ q.1)) e)) ∙ q.1))),
      (λ q. elim (given (key.Dev d) (key.Dev q.0) x (fact.Device Drm seat) f q.1) [ inl z ↦ absurd (true-false (out.2 seat) (new seat z.1) e) | inr z ↦ i.1 (q.0, z.1) ]),
    ))),
    w.seats.2,
    w.seats.3,
  );
  locks = w.locks;
  operation = w.operation;
  users = w.users;
}
  where
    dev-one : (a b : DevNo) → key.Dev a ≡ key.Dev b → a ≡ b
    dev-one a b e = cc

good-dev : (out : Exempt) (d : DevNo) (x : Fact) (t : Trail) → fits_key (key.Dev d) x ≡ true → ((s : SessId) (h : HandleNo) → value t (key.Taken s d) ≡ fact.Handle h → ⊥)
    → ((seat : List ℕ) → value t (key.Dev d) ≡ fact.Device Drm seat → out.2 seat ≡ true) → ((seat : List ℕ) → x ≡ fact.Device Drm seat → out.2 seat ≡ true)
    → Good out t → Good out (put (key.Dev d) x t)
good-dev out d x t fits free old new g = good-put out (key.Dev d) x t (holds-dev out d x (value t) fits free old new g.holds) (unused-plain (key.Dev d) x t refl refl refl g.unused)

-- a seat comes, or goes where no open session is on it; another than seat0, and exempt
holds-seat : (out : Exempt) (name : List ℕ) (x : Fact) (f : Facts) → fits_key (key.Seat name) x ≡ true → bytes_eq name seat0 ≡ false → out.2 name ≡ true
    → (is_seat_fact x ≡ false → (s : SessId) → Opened f s → OnSeat f s name → ⊥) → Holds out f → Holds out (upd (key.Seat name) x f)
holds-seat out name x f fits other free none w = record {
  shaped = shaped-put (key.Seat name) x f w.shaped fits;
  controls = w.controls;
  fifos = w.fifos;
  takes = w.takes;
  lives = w.lives;
  awaits = w.awaits;
  terminals = w.terminals;
  seats = (
    ap is_seat_fact (upd-other (key.Seat name) (key.Seat seat0) x f other) ∙ w.seats.0,
    (λ seat e n. (let i = w.seats.1 seat e n in
        let z : upd (key.Seat name) x f (key.Seat seat) ≡ f (key.Seat seat) = upd-other (key.Seat name) (key.Seat seat) x f (apart (key.Seat name) (key.Seat seat) (λ q. true-false (out.2 seat) (ap out.2 (sym (seat-one name seat q)) ∙ free) e)) in
        ((λ p. i.0 (ap is_seat_fact (sym z) ∙ p)), (λ q. ap is_seat_fact z ∙ i.1 q)))),
    (λ s seat o e. elim (test (same_key (key.Seat name) (key.Seat seat))) [
      | inl q ↦ (let k = seat-one name seat (same_key-true (key.Seat name) (key.Seat seat) q) in
          ap (λ (b : Bool). is_seat_fact (cond b x (f (key.Seat seat)))) q ∙ there (is_seat_fact x) refl (λ m. none m s o (e ∙ ap Some (sym k))))
      | inr q ↦ ap is_seat_fact (upd-other (key.Seat name) (key.Seat seat) x f q) ∙ w.seats.2 s seat o e
    ]),
    w.seats.3,
  );
  locks = w.locks;
  operation = w.operation;
  users = w.users;
}
  where
    seat-one : (a b : List ℕ) → key.Seat a ≡ key.Seat b → a ≡ b
    seat-one a b e = cc

    there : (b : Bool) → is_seat_fact x ≡ b → (b ≡ false → ⊥) → is_seat_fact x ≡ true
    there true e n = e
    there false e n = absurd (n refl)

good-seat : (out : Exempt) (name : List ℕ) (x : Fact) (t : Trail) → fits_key (key.Seat name) x ≡ true → bytes_eq name seat0 ≡ false → out.2 name ≡ true
    → (is_seat_fact x ≡ false → (s : SessId) → Opened (value t) s → OnSeat (value t) s name → ⊥) → Good out t → Good out (put (key.Seat name) x t)
good-seat out name x t fits other free none g = good-put out (key.Seat name) x t (holds-seat out name x (value t) fits other free none g.holds) (unused-plain (key.Seat name) x t refl refl refl g.unused)

-- the seat is exempt no more
good-back : (seat : List ℕ) (t : Trail) → (bytes_eq seat seat0 ≡ false → (is_seat_fact (value t (key.Seat seat)) ≡ true) ↔ Graphical (value t) seat) → Good (but_seat seat) t → Good none_out t
good-back seat t i g = record {
  holds = holds-all (but_seat seat) (value t) (λ s e. absurd (let z : false ≡ true = e in cc)) (λ u e. absurd (let z : false ≡ true = e in cc))
      (λ name e n. (let k = same-bytes name seat e in
      let P : List ℕ → Type 0 = λ v. bytes_eq v seat0 ≡ false → (is_seat_fact (value t (key.Seat v)) ≡ true) ↔ Graphical (value t) v in subst P (sym k) i n)) g.holds;
  unused = g.unused;
}

-- ---- a device comes

not-there : (x : Fact) (d : DevNo) → is_device_fact x ≡ false → (kind : DevKind) (seat : List ℕ) → x ≡ fact.Device kind seat → ⊥
not-there x d e kind seat p = (let z : true ≡ false = ap is_device_fact (sym p) ∙ e in cc)

none-takes : (out : Exempt) (d : DevNo) (t : Trail) → is_device t d ≡ false → Good out t → (s : SessId) (h : HandleNo) → value t (key.Taken s d) ≡ fact.Handle h → ⊥
none-takes out d t e g s h p = (let i = g.holds.takes s d h p in not-there (value t (key.Dev d)) d e i.1 i.2 i.5)

appear-by : (b : Bool) (d : DevNo) (seat : List ℕ) (t : Trail) → is_seat t seat ≡ b → value t (key.Dev d) ≡ fact.Device Drm seat → Good (but_seat seat) t
    → Good none_out (cond b t (tell_all (SeatNew seat) (put (key.Seat seat) fact.Present t)))
appear-by true d seat t e p g = good-back seat t (λ n. ((λ q. (d, p)), (λ q. e))) g
appear-by false d seat t e p g = by (test (bytes_eq seat seat0))
  where
    u : Trail
    u = put (key.Seat seat) fact.Present t

    by : ((bytes_eq seat seat0 ≡ true) ⊎ (bytes_eq seat seat0 ≡ false)) → Good none_out (tell_all (SeatNew seat) u)
    by (inl z) = absurd (true-false (is_seat_fact (value t (key.Seat seat0))) g.holds.seats.0 (ap (λ (v : List ℕ). is_seat_fact (value t (key.Seat v))) (sym (same-bytes seat seat0 z)) ∙ e))
    by (inr z) =
        let w = good-seat (but_seat seat) seat fact.Present t refl z (bytes-refl seat) (λ q. absurd (let y : true ≡ false = q in cc)) g in
        good-say none_out All (SeatNew seat) u
        (good-back seat u (λ n. ((λ q. (d, value-put (key.Seat seat) (key.Dev d) fact.Present t ∙ p)), (λ q. ap is_seat_fact (value-put (key.Seat seat) (key.Seat seat) fact.Present t ∙ upd-same (key.Seat seat) fact.Present (value t))))) w)

appear : (kind : DevKind) (d : DevNo) (seat : List ℕ) (t : Trail) → is_device t d ≡ false → Good none_out t → Good none_out (appear_seat kind seat (put (key.Dev d) (fact.Device kind seat) t))
appear Drm d seat t e g =
    let x = fact.Device Drm seat in
    let w = good-dev (but_seat seat) d x t refl (none-takes none_out d t e g) (λ name q. absurd (not-there (value t (key.Dev d)) d e Drm name q)) (λ name q. (let k : seat ≡ name = cc in ap (λ (v : List ℕ). bytes_eq v seat) (sym k) ∙ bytes-refl seat)) (good-more seat t g) in
    let u = put (key.Dev d) x t in
    appear-by (is_seat u seat) d seat u refl (value-put (key.Dev d) (key.Dev d) x t ∙ upd-same (key.Dev d) x (value t)) w
appear Evdev d seat t e g =
    good-dev none_out d (fact.Device Evdev seat) t refl (none-takes none_out d t e g) (λ name q. absurd (not-there (value t (key.Dev d)) d e Drm name q)) (λ name q. absurd (let z = q in cc)) g

pub good-add : (d : DevNo) (kind : DevKind) (seat : List ℕ) (t : Trail) → is_device t d ≡ false → Good none_out t → Good none_out (add_device d kind seat t)
unfolding add_device
good-add d kind seat t e g = appear kind d seat t e g

-- ---- a device goes

in-takers : (t : Trail) (d : DevNo) (s : SessId) (h : HandleNo) → Good none_out t → value t (key.Taken s d) ≡ fact.Handle h → IsIn s (takers t d)
unfolding takers
in-takers t d s h g e =
    let i = g.holds.takes s d h e in
    filter-keeps (λ r. is_taken t r d) s (sessions t) (ap is_handle_fact e) (in-sessions t s (open-there (value t (key.Sess s)) i.3))

abbrev pub let_go : Trail → DevNo → Trail
let_go t d = each (λ s u. revoke s d u) (takers t d) t

pub gone-from : (d : DevNo) (t : Trail) → Good none_out t → Fewer none_out t (let_go t d)
gone-from d t g = fewer-each none_out (λ s u. revoke s d u) (λ s u w. revoke-gives-up.fewer none_out s d u w) (takers t d) t g

none-has : (d : DevNo) (t : Trail) → Good none_out t → (s : SessId) (h : HandleNo) → value (let_go t d) (key.Taken s d) ≡ fact.Handle h → ⊥
none-has d t g s h e =
    each-does (Good none_out) (λ x u. (n : HandleNo) → value u (key.Taken x d) ≡ fact.Handle n → ⊥) (λ x u. revoke x d u)
    (λ x u w. (revoke-gives-up.fewer none_out x d u w).good)
    (λ x u w. revoke-gives-up.gone x d u)
    (λ x y u w n m z. n m ((revoke-gives-up.fewer none_out y d u w).less.taken x d m z))
    (takers t d) t g s (in-takers t d s h g ((gone-from d t g).less.taken s d h e)) h e

graphics-in : (seat : List ℕ) (x : Fact) → is_graphics_on seat x ≡ true → x ≡ fact.Device Drm seat
graphics-in seat (fact.Device Drm name) e = ap (fact.Device Drm) (same-bytes name seat e)
graphics-in seat _ e = cc

any-step : {A : Type 0} (b : Bool) (p : A → Bool) (x : A) (c : Bool) → p x ≡ b → (b || c) ≡ true → (c ≡ true → (y : A) × (p y ≡ true)) → (y : A) × (p y ≡ true)
any-step true p x c q z f = (x, q)
any-step false p x c q z f = f z

or-true : (b c : Bool) → c ≡ true → (b || c) ≡ true
or-true true c e = refl
or-true false c e = e

any-in : {A : Type 0} (p : A → Bool) (xs : List A) → list_any p xs ≡ true → (x : A) × (p x ≡ true)
any-in p [] e = cc
any-in p (x ∷ xs) e = any-step (p x) p x (list_any p xs) refl e (any-in p xs)

in-any : {A : Type 0} (p : A → Bool) (xs : List A) (x : A) → IsIn x xs → p x ≡ true → list_any p xs ≡ true
in-any p [] x i e = absurd i
in-any p (y ∷ ys) x (inl q) e = ap (λ (b : Bool). b || list_any p ys) (ap p (sym q) ∙ e)
in-any p (y ∷ ys) x (inr i) e = or-true (p y) (list_any p ys) (in-any p ys x i e)

has-graphics : (t : Trail) (seat : List ℕ) → has_graphics t seat ≡ true → Graphical (value t) seat
unfolding has_graphics
has-graphics t seat e = (let i = any-in (λ d. is_graphics_on seat (value t (key.Dev d))) (devices t) e in (i.0, graphics-in seat (value t (key.Dev i.0)) i.1))

graphics-has : (t : Trail) (seat : List ℕ) → Graphical (value t) seat → has_graphics t seat ≡ true
unfolding has_graphics devices
graphics-has t seat q =
    let p : is_device t q.0 ≡ true = ap is_device_fact q.1 in
    in-any (λ d. is_graphics_on seat (value t (key.Dev d))) (devices t) q.0
    (filter-keeps (is_device t) q.0 (names device_lt device_in t) p ((devices-enumerated t).complete q.0 p)) (ap (is_graphics_on seat) q.1 ∙ bytes-refl seat)

in-sessions_on : (t : Trail) (seat : List ℕ) (s : SessId) → Opened (value t) s → OnSeat (value t) s seat → IsIn s (sessions_on t seat)
unfolding sessions_on
in-sessions_on t seat s o e = filter-keeps (is_on_seat t seat) s (sessions t) (ap (is_this_seat seat) e ∙ bytes-refl seat) (in-sessions t s (open-there (value t (key.Sess s)) o))

none-on : (out : Exempt) (seat : List ℕ) (t : Trail) → Good out t → (s : SessId) → Opened (value (each shut (sessions_on t seat) t)) s → OnSeat (value (each shut (sessions_on t seat) t)) s seat → ⊥
none-on out seat t g s o e =
    let v = each shut (sessions_on t seat) t in
    let all : ShutAll out t v = shut-each out (sessions_on t seat) t g in
    let w = all.opens s o in
    each-does (ShutAll out t) (λ x u. Opened (value u) x → ⊥) shut
    (λ x u k. shut-one out x t u k)
    (λ x u k. (shut-does out x u k.good).closed)
    (λ x y u k n p. n ((shut-one out y u u (shut-all-refl out u k.good)).opens x p).0)
    (sessions_on t seat) t (shut-all-refl out t g) s (in-sessions_on t seat s w.0 (ap seat_in_fact (sym w.1) ∙ e)) o

lose-by : (a b : Bool) (seat : List ℕ) (t : Trail) → bytes_eq seat seat0 ≡ a → has_graphics t seat ≡ b → is_seat t seat ≡ true → Good (but_seat seat) t
    → Good none_out (cond (a || b) t (tell_all (SeatRemoved seat) (put (key.Seat seat) fact.Absent (each shut (sessions_on t seat) t))))
lose-by true b seat t e p there g = good-back seat t (λ n. absurd (true-false (bytes_eq seat seat0) e n)) g
lose-by false true seat t e p there g = good-back seat t (λ n. ((λ q. has-graphics t seat p), (λ q. there))) g
lose-by false false seat t e p there g =
    let v = each shut (sessions_on t seat) t in
    let all = shut-each (but_seat seat) (sessions_on t seat) t g in
    let u = put (key.Seat seat) fact.Absent v in
    let w = good-seat (but_seat seat) seat fact.Absent v refl e (bytes-refl seat) (λ q. none-on (but_seat seat) seat t g) all.good in
    let gone : value u (key.Seat seat) ≡ fact.Absent = value-put (key.Seat seat) (key.Seat seat) fact.Absent v ∙ upd-same (key.Seat seat) fact.Absent (value v) in
    good-say none_out All (SeatRemoved seat) u
    (good-back seat u (λ n. (
      (λ q. absurd (let z : false ≡ true = ap is_seat_fact (sym gone) ∙ q in cc)),
      (λ q. absurd (true-false (has_graphics t seat) (graphics-has t seat (q.0, sym (all.keeps.facts (key.Dev q.0) refl) ∙ sym (value-put (key.Seat seat) (key.Dev q.0) fact.Absent v) ∙ q.1)) p)),
    )) w)

-- a device that is no graphics device goes
plain-gone : (d : DevNo) (t : Trail) → ((seat : List ℕ) → value t (key.Dev d) ≡ fact.Device Drm seat → ⊥) → Good none_out t → Good none_out (put (key.Mode d) (fact.Number 0) (put (key.Dev d) fact.Absent (let_go t d)))
plain-gone d t n g =
    let u = let_go t d in
    let f = gone-from d t g in
    good-mode-put none_out d 0 (put (key.Dev d) fact.Absent u)
    (good-dev none_out d fact.Absent u refl (none-has d t g) (λ name q. absurd (n name (sym (f.less.keeps.facts (key.Dev d) refl) ∙ q))) (λ name q. absurd (let z = q in cc)) f.good)

-- what goes with the device of this fact
removed-by : (x : Fact) (d : DevNo) (t : Trail) → value t (key.Dev d) ≡ x → Good none_out t
    → Good none_out (lose_seat x (put (key.Mode d) (fact.Number 0) (put (key.Dev d) fact.Absent (let_go t d))))
removed-by (fact.Device Drm seat) d t e g =
    let u = let_go t d in
    let f = gone-from d t g in
    let k = f.less.keeps.facts in
    let v = put (key.Dev d) fact.Absent u in
    let w = put (key.Mode d) (fact.Number 0) v in
    let a = good-dev (but_seat seat) d fact.Absent u refl (none-has d t g)
    (λ name q. (let z : fact.Device Drm seat ≡ fact.Device Drm name = sym e ∙ sym (k (key.Dev d) refl) ∙ q in let y : seat ≡ name = cc in ap (λ (x : List ℕ). bytes_eq x seat) (sym y) ∙ bytes-refl seat))
    (λ name q. absurd (let z = q in cc)) (good-more seat u f.good) in
    let b = good-mode-put (but_seat seat) d 0 v a in
    let same : value w (key.Seat seat) ≡ value t (key.Seat seat) = value-put (key.Mode d) (key.Seat seat) (fact.Number 0) v ∙ value-put (key.Dev d) (key.Seat seat) fact.Absent u ∙ k (key.Seat seat) refl in
    lose-by (bytes_eq seat seat0) (has_graphics w seat) seat w refl refl (ap is_seat_fact same ∙ there seat (test (bytes_eq seat seat0)) e) b
  where
    there : (seat : List ℕ) → (bytes_eq seat seat0 ≡ true) ⊎ (bytes_eq seat seat0 ≡ false) → value t (key.Dev d) ≡ fact.Device Drm seat → is_seat_fact (value t (key.Seat seat)) ≡ true
    there seat (inl z) p = ap (λ (v : List ℕ). is_seat_fact (value t (key.Seat v))) (same-bytes seat seat0 z) ∙ g.holds.seats.0
    there seat (inr z) p = (g.holds.seats.1 seat refl z).1 (d, p)
removed-by (fact.Device Evdev seat) d t e g = plain-gone d t (λ name q. (let z = sym e ∙ q in cc)) g
removed-by _ d t e g = plain-gone d t (λ name q. (let z = sym e ∙ q in cc)) g

pub good-remove : (d : DevNo) (t : Trail) → Good none_out t → Good none_out (remove_device d t)
unfolding remove_device
good-remove d t g = removed-by (value t (key.Dev d)) d t refl g
