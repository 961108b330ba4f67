-- Users come and go: linger, leave, and the clock.
use Rattle.std.proofs.Common.{◌≡◌, ◌≤◌, ℕ, ◌==◌, nat_lt, Bool, true, false, cond, refl, ap, sym, ◌∙◌, subst, arith, inl, inr}
use Rattle.std.proofs.lemmas.Bool.Decides.{nat_tests}
use Rattle.login_base.specs.declared.ids.Uid.{Uid}
use Rattle.login_base.specs.declared.ids.Millis.{Millis}
use Rattle.login_model.specs.Trail.{Trail, value, put}
use Rattle.login_model.specs.Where.{is_set, now, users}
use Rattle.login_model.specs.Procedure.{forget, is_kept, know, leave, no, tell_new_user, yes}
use Rattle.login_model.specs.Direct.{begin_linger, end_linger, is_overdue_fact, leave_known, linger, overdue, tick}
use Rattle.login_laws.specs.Shapes.{fits_key}
use Rattle.login_model.specs.declared.setup.Setup.{Setup}
use Rattle.login_model.specs.declared.mark.Notice.TheVariants.{UserNew, UserRemoved}
use Rattle.login_model.specs.declared.mark.Whom.TheVariants.{All}
use Rattle.login_model.specs.declared.fact.Key.TheVariants as key
use Rattle.login_model.specs.declared.fact.Fact.{Fact}
use Rattle.login_model.specs.declared.fact.Fact.TheVariants as fact
use Rattle.login_model.proofs.Keys.{same-user}
use Rattle.login_model.proofs.InOrder.{IsIn, filter-gives}
use Rattle.login_model.proofs.Values.{Facts, upd, upd-same, same-refl, true-false, values-put, values-say}
use Rattle.login_laws.proofs.Holds.{Exempt, none_out, Staying, holds-all, holds-more}
use Rattle.login_laws.proofs.UserSteps.{holds-linger, holds-now, holds-user}
use Rattle.login_laws.proofs.Loops.{each-keeps}
use Rattle.login_laws.proofs.UnusedLaws.{at-most, unused-plain}
use Rattle.login_laws.proofs.Giving.{Good, good-put, good-say}
use Rattle.login_laws.proofs.Accords.{kept-stays, stays-kept}

-- all but one user
abbrev pub but_user : Uid → Exempt
but_user u = ((λ s. false), (λ v. u.0 == v.0), (λ n. false))

pub this-user : (u : Uid) → (but_user u).1 u ≡ true
this-user u = same-refl u.0

pub good-but : (u : Uid) (t : Trail) → Good none_out t → Good (but_user u) t
good-but u t g = record { holds = holds-more none_out (but_user u) (value t) (λ s e. refl) (λ v e. refl) (λ n e. refl) g.holds; unused = g.unused }

-- and the one too, where all is right with them
pub good-all : (u : Uid) (t : Trail) → (Staying (value t) u → value t (key.User u) ≡ fact.Known) → (value t (key.User u) ≡ fact.Known → Staying (value t) u) → Good (but_user u) t → Good none_out t
good-all u t a b g = record {
  holds = holds-all (but_user u) (value t) (λ s e o. absurd (let z : false ≡ true = e in cc))
      (λ v e. (let z = same-user u v e in
      let P : Uid → Type 0 = λ w. (Staying (value t) w → value t (key.User w) ≡ fact.Known) × (value t (key.User w) ≡ fact.Known → Staying (value t) w) in
      subst P z (a, b))) (λ n e. absurd (let z : false ≡ true = e in cc)) g.holds;
  unused = g.unused;
}

-- an exempt user's fact is set
pub user-set : (u : Uid) (x : Fact) (t : Trail) → fits_key (key.User u) x ≡ true → ((since : Millis) → x ≡ fact.Leaving since → since.0 ≤ now t) → Good (but_user u) t → Good (but_user u) (put (key.User u) x t)
user-set u x t p past g = good-put (but_user u) (key.User u) x t (holds-user (but_user u) u x (value t) (this-user u) p past g.holds) (unused-plain (key.User u) x t refl refl refl g.unused)

-- ---- becoming known

new-user : (u : Uid) (x : Fact) (t : Trail) → value (tell_new_user u x t) ≡ value t
new-user u fact.Absent t = values-say All (UserNew u) t
new-user u _ t = refl

good-new-user : (out : Exempt) (u : Uid) (x : Fact) (t : Trail) → Good out t → Good out (tell_new_user u x t)
good-new-user out u fact.Absent t g = good-say out All (UserNew u) t g
good-new-user out u _ t g = g

pub values-know : (u : Uid) (t : Trail) → value (know u t) ≡ upd (key.User u) fact.Known (value t)
unfolding know
values-know u t = new-user u (value t (key.User u)) (put (key.User u) fact.Known t) ∙ values-put (key.User u) fact.Known t

pub known : (u : Uid) (t : Trail) → Good (but_user u) t → Good (but_user u) (know u t)
unfolding know
known u t g = good-new-user (but_user u) u (value t (key.User u)) (put (key.User u) fact.Known t) (user-set u fact.Known t refl (λ since e. cc) g)

-- ---- leaving

not-known : (f : Facts) (u : Uid) (x : Fact) → (x ≡ fact.Known → ⊥) → upd (key.User u) x f (key.User u) ≡ fact.Known → ⊥
not-known f u x n e = n (sym (upd-same (key.User u) x f) ∙ e)

-- a user whom nothing keeps has another fact than to be known
gone-user : (u : Uid) (x : Fact) (t : Trail) → (Staying (value t) u → ⊥) → (x ≡ fact.Known → ⊥) → fits_key (key.User u) x ≡ true
    → ((since : Millis) → x ≡ fact.Leaving since → since.0 ≤ now t) → Good (but_user u) t → Good none_out (put (key.User u) x t)
gone-user u x t n k p past g =
    let v = put (key.User u) x t in
    let path = values-put (key.User u) x t in
    let P : Facts → Type 0 = λ f. (Staying f u → f (key.User u) ≡ fact.Known) × (f (key.User u) ≡ fact.Known → Staying f u) in
    let r : P (value v) = subst P (sym path) ((λ s. absurd (n s)), (λ e. absurd (not-known (value t) u x k e))) in
    good-all u v r.0 r.1 (user-set u x t p past g)

moment-one : (m n : Millis) → fact.Leaving m ≡ fact.Leaving n → m ≡ n
moment-one m n e = cc

leave-by : (a b : Bool) (u : Uid) (t : Trail) → is_kept t u ≡ a → (Staying (value t) u → value t (key.User u) ≡ fact.Known) → Good (but_user u) t
    → Good none_out (cond a t (cond b (forget u t) (put (key.User u) (fact.Leaving (record { 0 = now t })) t)))
leave-by true b u t e k g = (let s = kept-stays t u e in good-all u t k (λ z. s) g)
leave-by false true u t e k g =
    good-say none_out All (UserRemoved u) (put (key.User u) fact.Absent t)
    (gone-user u fact.Absent t (λ s. true-false (is_kept t u) (stays-kept t u s) e) (λ z. cc) refl (λ since z. cc) g)
leave-by false false u t e k g =
    gone-user u (fact.Leaving (record { 0 = now t })) t (λ s. true-false (is_kept t u) (stays-kept t u s) e) (λ z. cc) refl
    (λ since z. (let q : now t ≡ since.0 = ap (λ (m : Millis). m.0) (moment-one (record { 0 = now t }) since z) in omega arith)) g

-- a user leaves, unless something keeps them
pub left : (U : Setup) (u : Uid) (t : Trail) → (Staying (value t) u → value t (key.User u) ≡ fact.Known) → Good (but_user u) t → Good none_out (leave U u t)
unfolding leave
left U u t k g = leave-by (is_kept t u) (U.conf.user_stop_delay.0 == 0) u t refl k g

-- ---- lingering

lingers : (u : Uid) (b : Bool) (t : Trail) → Good none_out t → Good (but_user u) (put (key.Linger u) (fact.Flag b) t)
lingers u b t g =
    let w = good-but u t g in
    good-put (but_user u) (key.Linger u) (fact.Flag b) t (holds-linger (but_user u) u b (value t) (this-user u) w.holds) (unused-plain (key.Linger u) (fact.Flag b) t refl refl refl w.unused)

linger-on : (u : Uid) (t : Trail) → Good none_out t → Good none_out (begin_linger u t)
linger-on u t g =
    let v = put (key.Linger u) yes t in
    let path = values-know u v ∙ ap (upd (key.User u) fact.Known) (values-put (key.Linger u) yes t) in
    let w : Facts = upd (key.User u) fact.Known (upd (key.Linger u) yes (value t)) in
    let P : Facts → Type 0 = λ f. (Staying f u → f (key.User u) ≡ fact.Known) × (f (key.User u) ≡ fact.Known → Staying f u) in
    let r : P (value (know u v)) = subst P (sym path)
    ((λ s. upd-same (key.User u) fact.Known (upd (key.Linger u) yes (value t))), (λ e. inr (ap is_set (upd-same (key.Linger u) yes (value t))))) in
    good-all u (know u v) r.0 r.1 (known u v (lingers u true t g))

-- who stays without lingering did so before
stays-before : (u : Uid) (t : Trail) → Staying (upd (key.Linger u) no (value t)) u → Staying (value t) u
stays-before u t (inl i) = inl i
stays-before u t (inr l) = (let z : is_set no ≡ true = ap is_set (sym (upd-same (key.Linger u) no (value t))) ∙ l in cc)

end-by : (x : Fact) (U : Setup) (u : Uid) (v : Trail) → value v (key.User u) ≡ x → (Staying (value v) u → value v (key.User u) ≡ fact.Known) → Good (but_user u) v → Good none_out (leave_known U u x v)
end-by fact.Known U u v e k g = left U u v k g
end-by _ U u v e k g = good-all u v k (λ z. (let c = sym e ∙ z in cc)) g

linger-off : (U : Setup) (u : Uid) (t : Trail) → Good none_out t → Good none_out (end_linger U u t)
linger-off U u t g =
    let v = put (key.Linger u) no t in
    let path = values-put (key.Linger u) no t in
    let P : Facts → Type 0 = λ f. Staying f u → f (key.User u) ≡ fact.Known in
    end-by (value v (key.User u)) U u v refl (subst P (sym path) (λ s. g.holds.users.0 u refl (stays-before u t s))) (lingers u false t g)

pub good-linger : (U : Setup) (u : Uid) (on : Bool) (t : Trail) → Good none_out t → Good none_out (linger U u on t)
good-linger U u true t g = linger-on u t g
good-linger U u false t g = linger-off U u t g

-- ---- the clock

overdue-leaving : (U : Setup) (m : ℕ) (x : Fact) → is_overdue_fact U m x ≡ true → x ≡ fact.Known → ⊥
overdue-leaving U m (fact.Leaving since) e k = cc
overdue-leaving U m _ e k = cc

of-overdue : (U : Setup) (t : Trail) (m : ℕ) (u : Uid) → IsIn u (overdue U t m) → is_overdue_fact U m (value t (key.User u)) ≡ true
unfolding overdue
of-overdue U t m u i = filter-gives (λ v. is_overdue_fact U m (value t (key.User v))) u (users t) i

-- those who stay are as before
pub record Forgotten (t u : Trail) : Type 0 where
  pub good : Good none_out u
  pub stays : (v : Uid) → Staying (value u) v → Staying (value t) v

forget-one : (v : Uid) (t u : Trail) → (Staying (value t) v → ⊥) → Forgotten t u → Forgotten t (forget v u)
forget-one v t u n w =
    let p = put (key.User v) fact.Absent u in
    let path : value (forget v u) ≡ upd (key.User v) fact.Absent (value u) = values-say All (UserRemoved v) p ∙ values-put (key.User v) fact.Absent u in
    record {
      good = good-say none_out All (UserRemoved v) p (gone-user v fact.Absent u (λ s. n (w.stays v s)) (λ z. cc) refl (λ since z. cc) (good-but v u w.good));
      stays = (let P : Facts → Type 0 = λ f. (x : Uid) → Staying f x → Staying (value t) x in subst P (sym path) w.stays);
    }

later : (m : Millis) (t : Trail) → nat_lt m.0 (now t) ≡ false → now t ≤ m.0
later m t e = grind (arith, nat_tests)

pub good-tick : (U : Setup) (m : Millis) (t : Trail) → nat_lt m.0 (now t) ≡ false → Good none_out t → Good none_out (tick U m t)
unfolding tick
good-tick U m t e g =
    let p = put key.Now (fact.Moment m) t in
    let path = values-put key.Now (fact.Moment m) t in
    let start : Forgotten t p = record {
      good = good-put none_out key.Now (fact.Moment m) t (holds-now none_out m (value t) (later m t e) at-most g.holds) (unused-plain key.Now (fact.Moment m) t refl refl refl g.unused);
      stays = (let P : Facts → Type 0 = λ f. (x : Uid) → Staying f x → Staying (value t) x in subst P (sym path) (λ x s. s));
    } in
    (each-keeps (Forgotten t) forget (overdue U t m.0) (λ v u i w. forget-one v t u
    (λ s. overdue-leaving U m.0 (value t (key.User v)) (of-overdue U t m.0 v i) (g.holds.users.0 v refl s)) w) p start).good
