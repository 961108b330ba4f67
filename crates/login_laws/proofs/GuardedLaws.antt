-- A live handle is that of the controller of its seat's active session.
use Rattle.std.proofs.Common.{◌≡◌, ℕ, Bool, true, false, Some, List, refl, ap, sym, ◌∙◌, inl, inr}
use Rattle.std.specs.Str.{bytes_eq}
use Rattle.login_base.specs.declared.ids.ConnId.{ConnId}
use Rattle.login_base.specs.declared.ids.DevNo.{DevNo}
use Rattle.login_base.specs.declared.ids.HandleNo.{HandleNo}
use Rattle.login_base.specs.declared.ids.SessId.{SessId}
use Rattle.login_model.specs.Devices.{is_live}
use Rattle.login_laws.specs.Guarded.{GivesAccess, IsGuarded}
use Rattle.login_model.specs.Start.{seat0}
use Rattle.login_model.specs.Trail.{Trail, value}
use Rattle.login_model.specs.Where.{active_on}
use Rattle.login_model.specs.declared.fact.Fact.TheVariants as fact
use Rattle.login_model.specs.declared.fact.Key.TheVariants as key
use Rattle.login_model.specs.declared.fact.Owner.TheVariants as owner
use Rattle.login_laws.proofs.ActiveLaws.{front-found, other-found}
use Rattle.login_laws.proofs.Closing.{not-in-front}
use Rattle.login_laws.proofs.DeviceSteps.{handle-one}
use Rattle.login_laws.proofs.Giving.{Good}
use Rattle.login_laws.proofs.Holds.{Activated, OnSeat, none_out}
use Rattle.login_model.proofs.Keys.{same-bytes}

-- who is active is so on the seat that it has
active-by : (b : Bool) (t : Trail) (s : SessId) (seat : List ℕ) → bytes_eq seat seat0 ≡ b → Good none_out t → OnSeat (value t) s seat → Activated (value t) s → active_on t seat ≡ Some s
active-by true t s seat e g on (inl f) = ap (active_on t) (same-bytes seat seat0 e) ∙ front-found none_out t s g.holds f
active-by false t s seat e g on (inl f) = absurd (not-in-front (value t) s seat on e f)
active-by b t s seat e g on (inr a) =
    let z : Some a.0 ≡ Some seat = sym a.2 ∙ on in
    let k : a.0 ≡ seat = cc in
    ap (active_on t) (sym k) ∙ other-found t a.0 s a.3 a.4 a.1

session-one : (s r : SessId) → Some s ≡ Some r → s ≡ r
session-one s r e = cc

owned-one : (c b : ConnId) (s r : SessId) (d e : DevNo) → fact.Owned (owner.Device c s d) ≡ fact.Owned (owner.Device b r e) → (c ≡ b) × (s ≡ r) × (d ≡ e)
owned-one c b s r d e p = (cc, cc, cc)

device-seat : (j k : _) (a b : List ℕ) → fact.Device j a ≡ fact.Device k b → a ≡ b
device-seat j k a b e = cc

guards : (t : Trail) → Good none_out t → (h : HandleNo) → is_live t h ≡ true → GivesAccess t h
guards t g h l =
    let i = g.holds.lives h l in
    let w = g.holds.takes i.1 i.2 h i.4 in
    record {
      by_whom = w.0;
      session = i.1;
      device = i.2;
      kind = w.1;
      seat = w.2;
      owned = w.7;
      taken = i.4;
      controls = w.4;
      session_open = w.3;
      on_seat = w.6;
      active = active-by (bytes_eq w.2 seat0) t i.1 w.2 refl g w.6 i.5;
      present = w.5;
    }

pub guarded : (t : Trail) → Good none_out t → IsGuarded t
guarded t g = record {
  live = guards t g;
  alone = λ a h b c s r d p q x y.
      (let i = guards t g a p in let j = guards t g h q in
      let o = owned-one i.by_whom b i.session s i.device d (sym i.owned ∙ x) in
      let k = owned-one j.by_whom c j.session r j.device d (sym j.owned ∙ y) in
      let dev : i.device ≡ j.device = o.2 ∙ sym k.2 in
      let seat = device-seat i.kind j.kind i.seat j.seat (sym i.present ∙ ap (λ (v : DevNo). value t (key.Dev v)) dev ∙ j.present) in
      let one = session-one i.session j.session (sym i.active ∙ ap (active_on t) seat ∙ j.active) in
      handle-one a h (sym i.taken ∙ ap (λ (v : SessId). value t (key.Taken v i.device)) one ∙ ap (λ (v : DevNo). value t (key.Taken j.session v)) dev ∙ j.taken));
}
