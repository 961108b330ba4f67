-- In every legal journal no session has taken more devices than it may: only a take brings a device, to one session that
-- has fewer.
use Rattle.std.proofs.Common.{◌≡◌, ◌≤◌, ◌+◌, ◌==◌, nat_le, ℕ, Option, Some, None, List, [], ◌∷◌, ◌++◌, refl, ap, sym, ◌∙◌, subst, arith, ◌⊎◌, inl, inr}
use Rattle.std.proofs.Math.Nat.{le-min}
use Rattle.login_base.specs.SessionId.{session_of}
use Rattle.login_base.specs.declared.ids.ConnId.{ConnId}
use Rattle.login_base.specs.declared.ids.DevNo.{DevNo}
use Rattle.login_base.specs.declared.ids.SessId.{SessId}
use Rattle.login_model.specs.Devices.{taken_devices}
use Rattle.login_model.specs.Direct.{direct, direct_call, disconnect}
use Rattle.login_model.specs.Fresh.{next_handle}
use Rattle.login_model.specs.Full.{taken_count}
use Rattle.login_model.specs.Legal.{IsLegal, IsLegalAfter, after_all, stepped, trail_of}
use Rattle.login_model.specs.Limits.{taken_limit}
use Rattle.login_model.specs.Names.{names}
use Rattle.login_model.specs.Policy.{call_rules, on_session, take_rules, verdict}
use Rattle.login_model.specs.Procedure.{if_some}
use Rattle.login_model.specs.Settle.{settle}
use Rattle.login_model.specs.Taking.{enliven, take_device}
use Rattle.login_model.specs.Trail.{Trail, put, value}
use Rattle.login_model.specs.Where.{is_active}
use Rattle.login_model.specs.declared.call.Call.{Call}
use Rattle.login_model.specs.declared.call.Call.TheVariants as call
use Rattle.login_model.specs.declared.event.Event.{Event}
use Rattle.login_model.specs.declared.event.Event.TheVariants.{Call as Calls, Disconnect}
use Rattle.login_base.specs.declared.ids.HandleNo.{HandleNo}
use Rattle.login_model.specs.declared.fact.Key.TheVariants as key
use Rattle.login_model.specs.declared.fact.Fact.TheVariants as fact
use Rattle.login_model.specs.declared.fact.Owner.TheVariants as owner
use Rattle.login_model.specs.declared.mark.Entry.{Entry}
use Rattle.login_model.specs.declared.rule.Limit.TheVariants.{DevicesTaken}
use Rattle.login_model.specs.declared.rule.Rule.TheVariants.{Limit}
use Rattle.login_model.specs.declared.rule.Verdict.{Verdict}
use Rattle.login_model.specs.declared.rule.Verdict.TheVariants.{Granted, Denied}
use Rattle.login_model.specs.declared.setup.Setup.{Setup}
use Rattle.login_model.proofs.Keys.{same-session, test}
use Rattle.login_model.proofs.Values.{true-false}
use Rattle.login_laws.specs.Few.{EachTakesFew, TakeAtMost}
use Rattle.login_laws.specs.Sound.{IsSound}
use Rattle.login_laws.proofs.Accords.{good-sound}
use Rattle.login_laws.proofs.Counts.{length-taken-less, taken_length}
use Rattle.login_laws.proofs.Ending.{good-disconnect}
use Rattle.login_laws.proofs.EventMarks.{call_takes, enliven-within, step-call, step-direct, taken-itself, taken-others, taken-within}
use Rattle.login_laws.proofs.Giving.{Good}
use Rattle.login_laws.proofs.Granted.{NoneBroken, granted-rules, not-broken}
use Rattle.login_laws.proofs.Holds.{none_out}
use Rattle.login_laws.proofs.NamedLimits.{below}
use Rattle.login_laws.proofs.Paying.{Falls}
use Rattle.login_laws.proofs.PayingEnds.{pays-disconnect}
use Rattle.login_laws.proofs.PayingMoves.{settle-within}
use Rattle.login_laws.proofs.SoundLaws.{after-more, sound-entry, sound-journal, sound-start}
use Rattle.login_laws.proofs.WithdrawingLaws.{same-self}
use Rattle.login_laws.proofs.WithinLaws.{owner-within, taken-there}

-- ---- no more than before

pub few-later : (n : ℕ) (t u : Trail) → TakeAtMost n t → Falls (value t) (value u) → TakeAtMost n u
few-later n t u l f s = let a = l s in let b = length-taken-less t u s (f.taken s) in omega arith

few-settled : (U : Setup) (n : ℕ) (t : Trail) → TakeAtMost n t → TakeAtMost n (settle U t)
few-settled U n t l = few-later n t (settle U t) l (settle-within U (taken_count t) t (taken-there t)).falls

-- ---- a take

-- where one session has fewer than may be, no session has more behind a take
put-few : (s : SessId) (d : DevNo) (h : HandleNo) (n : ℕ) (t : Trail) → taken_length t s + 1 ≤ n → TakeAtMost n t → TakeAtMost n (put (key.Taken s d) (fact.Handle h) t)
put-few s d h n t l m r =
    let x = fact.Handle h in
    let u = put (key.Taken s d) x t in
    let one = taken-itself s d x t s in
    let P : SessId → Type 0 = λ q. taken_length u q ≤ n in
    elim (test (s.0 == r.0)) [
      | inl i ↦ subst P (same-session s r i) (omega arith)
      | inr i ↦ (let a = taken-others s d x t r (λ e. true-false (s.0 == r.0) (ap (λ (q : SessId). s.0 == q.0) (sym e) ∙ same-self s.0) i) in let b = m r in omega arith)
    ]

take-few : (c : ConnId) (s : SessId) (d : DevNo) (h : HandleNo) (n : ℕ) (t : Trail) → taken_length t s + 1 ≤ n → TakeAtMost n t → TakeAtMost n (take_device c s d h t)
unfolding take_device
take-few c s d h n t l m =
    let o = fact.Owned (owner.Device c s d) in
    let a = put (key.Owner h) o t in
    let b = put (key.Taken s d) (fact.Handle h) a in
    let f = (owner-within h o t (λ q r z. cc)).falls in
    let k = length-taken-less t a s (f.taken s) in
    few-later n b (enliven h (is_active t s) b) (put-few s d h n a (omega arith) (few-later n t a m f)) (enliven-within h (is_active t s) b).falls

-- the rule says that the session has fewer than may be
taken-few : (c : ConnId) (o : Option SessId) (d : DevNo) (t : Trail) → NoneBroken (on_session (take_rules t c d) o) → TakeAtMost taken_limit t
    → TakeAtMost taken_limit (if_some (λ s u. take_device c s d (next_handle u) u) o t)
taken-few c None d t r m = m
taken-few c (Some s) d t r m =
    take-few c s d (next_handle t) taken_limit t
    (below taken_limit (taken_length t s) (not-broken (nat_le taken_limit (taken_length t s)) (Limit DevicesTaken) r.1.1.1.1.1.1.1.0)) m

-- ---- what is granted

-- a call takes a device, or none
record Takes (x : Call) : Type 0 where
  session : List ℕ
  device : DevNo
  is : x ≡ call.TakeDevice session device

takes-or-not : (x : Call) → Takes x ⊎ (call_takes x ≡ 0)
takes-or-not (call.TakeDevice id d) = inl (record { session = id; device = d; is = refl })
takes-or-not _ = inr refl

-- an event that takes none
none-few : (n k : ℕ) (t u : Trail) → k ≡ 0 → ((s : SessId) → taken_length u s ≤ taken_length t s + k) → TakeAtMost n t → TakeAtMost n u
none-few n k t u z f m s = let a = f s in let b = m s in omega arith

call-few : (U : Setup) (c : ConnId) (x : Call) (t : Trail) → NoneBroken (call_rules U t c x) → Good none_out t → TakeAtMost taken_limit t → TakeAtMost taken_limit (direct_call U c x t)
call-few U c x t r g m =
    elim (takes-or-not x) [
      | inl y ↦ (let P : Call → Type 0 = λ z. NoneBroken (call_rules U t c z) in
          let Q : Call → Type 0 = λ z. TakeAtMost taken_limit (direct_call U c z t) in
          subst Q (sym y.is) (taken-few c (session_of y.session) y.device t (subst P y.is r) m))
      | inr z ↦ none-few taken_limit (call_takes x) t (direct_call U c x t) z (step-call U c x t g.unused m).of_each m
    ]

direct-few : (U : Setup) (e : Event) (t : Trail) → verdict U t e ≡ Granted → Good none_out t → TakeAtMost taken_limit t → TakeAtMost taken_limit (direct U e t)
unfolding direct
direct-few U (Calls q) t v g m = call-few U q.who q.call t (granted-rules U t (Calls q) v) g m
direct-few U (Disconnect c) t v g m = few-later taken_limit t (disconnect c t) m (pays-disconnect c t g (good-disconnect c t g)).falls
direct-few U e t v g m = none-few taken_limit 0 t (direct U e t) refl (step-direct U e t (λ z. z) g.unused m).of_each m

step-few : (v : Verdict) (U : Setup) (e : Event) (t : Trail) → v ≡ verdict U t e → Good none_out t → TakeAtMost taken_limit t → TakeAtMost taken_limit (stepped U v e t)
step-few Granted U e t v g m = few-settled U taken_limit (direct U e t) (direct-few U e t (sym v) g m)
step-few (Denied r) U e t v g m = m

-- ---- journals

few-after : (U : Setup) (before es : List Entry) → IsLegalAfter U before es → IsSound U (trail_of before) → TakeAtMost taken_limit (trail_of before) → TakeAtMost taken_limit (after_all (trail_of before) es)
few-after U before [] l s m = m
few-after U before (e ∷ es) l s m =
    let t = trail_of before in
    let same : trail_of (before ++ e ∷ []) ≡ stepped U e.verdict e.event t = after-more [] before e ∙ l.0.marks_are in
    let P : Trail → Type 0 = λ u. TakeAtMost taken_limit u in
    let Q : Trail → Type 0 = λ u. TakeAtMost taken_limit (after_all u es) in
    let k = step-few e.verdict U e.event t l.0.verdict_is (good-sound t s.between) m in
    subst Q (after-more [] before e) (few-after U (before ++ e ∷ []) es l.1 (sound-entry U before e l.0 s) (subst P (sym same) k))

few-start : TakeAtMost taken_limit []
unfolding taken_devices names
few-start s = omega arith

few-limit : (U : Setup) (es : List Entry) → IsLegal U es → TakeAtMost taken_limit (trail_of es)
few-limit U es l = few-after U [] es l (sound-start U) few-start

-- no more than all have, nor than the limit
pub each-takes-few : EachTakesFew
each-takes-few U es l s = le-min (taken-within (trail_of es) (good-sound (trail_of es) (sound-journal U es l).between) s) (few-limit U es l s)
