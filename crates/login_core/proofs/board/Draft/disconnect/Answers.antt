use Rattle.std.proofs.Common.{◌≡◌, ◌∙◌, ap, sym, refl, subst, arith}
use Rattle.login_model.specs.declared.fact.Key.TheVariants.{Conn, Lock, Sess}
use Rattle.login_model.specs.declared.fact.Fact.TheVariants.{Absent}
use Rattle.login_model.specs.Trail.{Trail, value, put}
use Rattle.login_model.specs.Procedure.{each, release, shut}
use Rattle.login_model.specs.Direct.{controlled_by, kept_open_by, locks_of, end_sessions, unlock, disconnect}
use Rattle.login_laws.specs.Amounts.{amount}
use Rattle.login_laws.specs.Sound.{Fifos}
use Rattle.login_laws.proofs.Widens.{Widens, each-widens, shut-widens, put-widens, widens-trans}
use Rattle.login_laws.proofs.Carried.{each-carried, release-carried}
use Rattle.login_laws.proofs.Tame.{Tame, tame, later-along, other, tame-unlocks}
use Rattle.login_base.specs.declared.ids.ConnId.{ConnId}
use Rattle.login_core.specs.inner.Draft.{DraftState, marked_by, with_trail}
use Rattle.login_core.proofs.Growing.{fits, trails}
use Rattle.login_core.proofs.ShutLaws.{fifos-released}
use Rattle.login_core.proofs.TextsKept.{AllLater, closing-later}
use Rattle.login_core.proofs.board.Draft.disconnect.Goals as goal

-- the end of a connection, of which the first part is done, and then the second
after-release : ConnId → Trail → Trail
after-release who t = put (Conn who) Absent (unlock who (end_sessions who t))

after-end : ConnId → Trail → Trail
after-end who t = put (Conn who) Absent (unlock who t)

end-widens : (who : ConnId) (t : Trail) → Widens t (end_sessions who t)
end-widens who t = each-widens shut shut-widens (kept_open_by t who) t

unlock-widens : (who : ConnId) (t : Trail) → Widens t (unlock who t)
unlock-widens who t = each-widens (λ l u. put (Lock l) Absent u) (λ l u. put-widens (Lock l) Absent u) (locks_of t who) t

absent-widens : (who : ConnId) (t : Trail) → Widens t (put (Conn who) Absent t)
absent-widens who t = put-widens (Conn who) Absent t

after-end-widens : (who : ConnId) (t : Trail) → Widens (unlock who t) (after-end who t)
unfolding after-end
after-end-widens who t = absent-widens who (unlock who t)

after-release-widens : (who : ConnId) (t : Trail) → Widens (end_sessions who t) (after-release who t)
unfolding after-release
after-release-widens who t =
    let e = end_sessions who t in
    let u = unlock who e in
    widens-trans e u (put (Conn who) Absent u) (unlock-widens who e) (absent-widens who u)

disconnect-is : (who : ConnId) (t : Trail) → disconnect who t ≡ after-release who (each release (controlled_by t who) t)
unfolding disconnect after-release
disconnect-is who t = refl

release-is : (who : ConnId) (t : Trail) → after-release who t ≡ after-end who (end_sessions who t)
unfolding after-release after-end
release-is who t = refl

end-is : (who : ConnId) (t : Trail) → after-end who t ≡ put (Conn who) Absent (unlock who t)
unfolding after-end
end-is who t = refl

ended : (who : ConnId) (d e f : DraftState) → e ≡ marked_by (λ t. each release (controlled_by t who) t) d → f ≡ marked_by (end_sessions who) e → marked_by (after-end who) f ≡ marked_by (disconnect who) d
ended who d e f p q =
    ap (marked_by (after-end who)) q ∙ ap (with_trail e) (sym (release-is who e.trail))
    ∙ ap (marked_by (after-release who)) p ∙ ap (with_trail d) (sym (disconnect-is who d.trail))

pub release_controlled-requires : goal.release_controlled-requires
release_controlled-requires c =
    let who = c.args.who in
    let t = c.args.self.now.trail in
    let a = each release (controlled_by t who) t in
    let g = end-widens who a in
    let h = after-release-widens who a in
    let e = disconnect-is who t in
    record { room = λ r. (let a = g r in let b = h r in let n = ap (amount r) e in let k = c.requires.room r in omega arith) }

unlock-tame : (who : ConnId) (t : Trail) → Tame t (unlock who t)
unlock-tame who t = each-carried tame (λ l u. put (Lock l) Absent u) tame-unlocks (locks_of t who) t

pub end_sessions-requires-clause-copies : goal.end_sessions-requires-clause-copies
end_sessions-requires-clause-copies c =
    let t = c.args.self.now.trail in
    let P : Trail → Type 0 = Tame t in
    let p = subst P (sym (trails c.release_controlled.ensures.marked)) (each-carried tame release (release-carried tame) (controlled_by t c.args.who) t) in
    closing-later c.args.closing.now.items t c.release_controlled.new.self.trail p.sessions c.requires.copies

pub end_sessions-requires-clause-fifos : goal.end_sessions-requires-clause-fifos
end_sessions-requires-clause-fifos c =
    let t = c.args.self.now.trail in
    subst Fifos (sym (trails c.release_controlled.ensures.marked)) (fifos-released (controlled_by t c.args.who) t c.requires.fifos)

pub returns-clause-copies : goal.returns-clause-copies
returns-clause-copies c =
    let who = c.args.who in
    let t = c.end_sessions.new.self.trail in
    let u = c.drop_locks.new.self.trail in
    let v = c.put_absent.new.self.trail in
    let spares = c.end_sessions.new.closing.items in
    let P : Trail → Type 0 = Tame t in
    let p = subst P (sym (trails c.drop_locks.ensures.marked)) (unlock-tame who t) in
    let Q : Trail → Type 0 = AllLater u in
    let q = subst Q (sym (trails c.put_absent.ensures.marked)) (λ s. later-along (value u (Sess s)) (value (put (Conn who) Absent u) (Sess s)) (other (Conn who) (Sess s) Absent u refl)) in
    closing-later spares u v q (closing-later spares t u p.sessions c.end_sessions.ensures.copies)

pub end_sessions-requires-clause-room : goal.end_sessions-requires-clause-room
end_sessions-requires-clause-room c =
    let who = c.args.who in
    let u = c.release_controlled.new.self.trail in
    let e = ap (marked_by (after-release who)) c.release_controlled.ensures.marked ∙ ap (with_trail c.args.self.now) (sym (disconnect-is who c.args.self.now.trail)) in
    λ r. (let a = fits _ _ c.args.self.now c.release_controlled.new.self e c.requires.room r in
    let h = after-release-widens who u r in
    omega arith)

pub drop_locks-requires : goal.drop_locks-requires
drop_locks-requires c =
    let who = c.args.who in
    let u = c.end_sessions.new.self.trail in
    let w = fits _ _ c.args.self.now c.end_sessions.new.self (ended c.args.who c.args.self.now c.release_controlled.new.self c.end_sessions.new.self c.release_controlled.ensures.marked c.end_sessions.ensures.marked) c.requires.room in
    record { room = λ r. (let a = w r in let h = after-end-widens who u r in omega arith) }

-- what the end of a connection is, once its locks are gone
gone : (c : goal.After-put_absent-arg-1) → marked_by (put (Conn c.args.who) Absent) c.drop_locks.new.self ≡ marked_by (disconnect c.args.who) c.args.self.now
gone c =
    let who = c.args.who in
    ap (marked_by (put (Conn who) Absent)) c.drop_locks.ensures.marked ∙ ap (with_trail c.end_sessions.new.self) (sym (end-is who c.end_sessions.new.self.trail))
    ∙ ended who c.args.self.now c.release_controlled.new.self c.end_sessions.new.self c.release_controlled.ensures.marked c.end_sessions.ensures.marked

pub put_absent-requires : goal.put_absent-requires
put_absent-requires c = record { room = fits _ _ c.args.self.now c.drop_locks.new.self (gone c) c.requires.room }

pub returns-clause-marked : goal.returns-clause-marked
returns-clause-marked c = c.put_absent.ensures.marked ∙ gone c.before
