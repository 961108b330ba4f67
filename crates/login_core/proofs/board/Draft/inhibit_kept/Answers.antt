use Rattle.std.proofs.Common.{refl, sym, subst}
use Rattle.login_base.specs.declared.ids.LockNo.{LockNo}
use Rattle.login_model.specs.Fresh.{next_handle, next_lock}
use Rattle.login_model.specs.Locks.{asked_lock}
use Rattle.login_model.specs.Policy.{uid_of}
use Rattle.login_model.specs.Trail.{Trail, put}
use Rattle.login_model.specs.declared.fact.Fact.{Fact}
use Rattle.login_model.specs.declared.fact.Fact.TheVariants as fact
use Rattle.login_model.specs.declared.fact.Key.TheVariants as key
use Rattle.login_model.specs.declared.fact.Owner.TheVariants as owner
use Rattle.login_model.specs.declared.lock.Lock.{Lock}
use Rattle.login_laws.proofs.Carried.{put-behind}
use Rattle.login_laws.proofs.Tame.{Tame, tame, tame-clocked}
use Rattle.login_core.specs.declared.room.texts.Texts.{Texts}
use Rattle.login_core.proofs.Growing.{trails}
use Rattle.login_core.proofs.TextsKept.{texts-later}
use Rattle.login_core.proofs.board.Draft.inhibit_kept.Goals as goal

pub returns-clause-texts : goal.returns-clause-texts
returns-clause-texts c =
    let t = c.args.self.now.trail in
    let old = c.args.texts.now in
    let new : Texts = record { closing = old.closing; gone = old.gone; fresh = old.fresh; lock = c.take.new.self; seats = old.seats } in
    let x : Lock = asked_lock c.args.who (record { 0 = uid_of t c.args.who }) c.args.inhibition.now in
    let l : LockNo = next_lock t in
    let o : Fact = fact.Owned (owner.Lock x.holder l) in
    let P : Trail → Type 0 = Tame t in
    let p = subst P (sym (trails c.inhibit.ensures.marked)) (put-behind tame (key.Owner (next_handle t)) o refl t (put (key.Lock l) (fact.Lock x) t) (tame-clocked.lock l (fact.Lock x) t)) in
    texts-later new t c.inhibit.new.self.trail p.sessions (record { closing = c.requires.texts.closing; gone = c.requires.texts.gone })
