use Rattle.std.proofs.Common.{◌+◌, ap, arith, refl}
use Rattle.login_model.specs.declared.mark.Mark.TheVariants.{Say}
use Rattle.login_facts.specs.KeyRooms.{keys_of}
use Rattle.login_core.specs.inner.UnderWay.{so_far}
use Rattle.login_facts.proofs.Standing.{stand-say}
use Rattle.login_core.proofs.Drafting.{draft-more, keys-say, room-inside, said-room, seen-more}
use Rattle.login_core.proofs.board.Draft.tell.Goals as goal

pub push-requires : goal.push-requires
push-requires c =
    let f = c.self.inside in
    let room = room-inside f.journal.value.items f.marks.items f.facts f.reach c.args.self.now c.self.view_is (said-room c.args.whom c.args.notice c.args.self.now c.requires.room) in
    let counted = c.self.invariant.counted in
    let fit = c.self.invariant.marks_fit in
    omega arith

pub invariant_of-self : goal.invariant_of-self
invariant_of-self c =
    let f = c.self.inside in
    let es = f.journal.value.items in
    let ms = f.marks.items in
    let room = room-inside es ms f.facts f.reach c.args.self.now c.self.view_is (said-room c.args.whom c.args.notice c.args.self.now c.requires.room) in
    draft-more es f.marks c.push.new.self f.facts f.facts f.made f.reach (Say c.args.whom c.args.notice) c.self.invariant room
    c.push.ensures.items c.push.ensures.spare (omega arith) (stand-say f.facts (so_far es ms) c.args.whom c.args.notice c.self.invariant.stands)

pub returns : goal.returns
returns c =
    let f = c.self.inside in
    record { marked = seen-more f.journal.value.items f.marks.items c.push.new.self.items f.facts f.facts f.reach (Say c.args.whom c.args.notice) c.args.self.now c.self.view_is c.push.ensures.items refl refl (λ p. ap (λ n. n + keys_of p f.facts.fresh) (keys-say p c.args.whom c.args.notice (so_far f.journal.value.items f.marks.items))) }
