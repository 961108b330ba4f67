use Rattle.std.proofs.Common.{◌≡◌, refl, sym, subst}
use Rattle.login_base.specs.declared.ids.SessId.{SessId}
use Rattle.login_model.specs.Policy.{verdict}
use Rattle.login_model.specs.Trail.{Trail, value, put}
use Rattle.login_model.specs.declared.event.Event.{Event}
use Rattle.login_model.specs.declared.fact.Fact.TheVariants.{Connected}
use Rattle.login_model.specs.declared.fact.Key.TheVariants.{Conn, Sess}
use Rattle.login_model.specs.declared.rule.Verdict.TheVariants.{Granted}
use Rattle.login_laws.proofs.Carried.{tick-carried}
use Rattle.login_laws.proofs.Tame.{Tame, tame, tame-clocked, later-along, other}
use Rattle.login_core.proofs.GrantedLaws.{exits, named}
use Rattle.login_core.proofs.TextsKept.{AllLater, going-later, texts-later}
use Rattle.login_core.proofs.TextsEnd.{disconnect-later}
use Rattle.login_core.proofs.Growing.{trails}
use Rattle.login_core.proofs.board.Draft.direct.Goals as goal

pub direct_call-requires-clause-named : goal.direct_call-requires-clause-named
direct_call-requires-clause-named c =
    let t = c.args.self.now.trail in
    let P : Event → Type 0 = λ e. verdict c.args.setup.now t e ≡ Granted in
    named c.args.setup.now t c.in-Call.request (subst P c.in-Call.is c.requires.granted)

pub disconnect-requires-clause-fifos : goal.disconnect-requires-clause-fifos
disconnect-requires-clause-fifos c = c.requires.sound.between.fifos

pub happen-requires-clause-here : goal.happen-requires-clause-here
happen-requires-clause-here c =
    let t = c.args.self.now.trail in
    let P : Event → Type 0 = λ e. verdict c.args.setup.now t e ≡ Granted in
    exits c.args.setup.now t c.in-Hardware.hardware (subst P c.in-Hardware.is c.requires.granted)

pub returns-in-Connect-clause-texts : goal.returns-in-Connect-clause-texts
returns-in-Connect-clause-texts c =
    let t = c.args.self.now.trail in
    let u = put (Conn c.in-Connect.who) (Connected c.in-Connect.user) t in
    let P : Trail → Type 0 = AllLater t in
    let p = subst P (sym (trails c.connect.ensures.marked)) (λ (s : SessId). later-along (value t (Sess s)) (value u (Sess s)) (other (Conn c.in-Connect.who) (Sess s) (Connected c.in-Connect.user) t refl)) in
    texts-later c.args.texts.now t c.connect.new.self.trail p c.requires.texts

pub returns-in-Disconnect-clause-texts : goal.returns-in-Disconnect-clause-texts
returns-in-Disconnect-clause-texts c =
    let t = c.args.self.now.trail in
    let P : Trail → Type 0 = AllLater t in
    let p = subst P (sym (trails c.disconnect.ensures.marked)) (disconnect-later c.in-Disconnect.who t) in
    record { closing = c.disconnect.ensures.copies; gone = going-later c.args.texts.now.gone.items t c.disconnect.new.self.trail p c.requires.texts.gone }

pub returns-in-Tick-clause-texts : goal.returns-in-Tick-clause-texts
returns-in-Tick-clause-texts c =
    let t = c.args.self.now.trail in
    let P : Trail → Type 0 = Tame t in
    let p = subst P (sym (trails c.tick.ensures.marked)) (tick-carried tame tame-clocked c.args.setup.now c.in-Tick.moment t) in
    texts-later c.args.texts.now t c.tick.new.self.trail p.sessions c.requires.texts
