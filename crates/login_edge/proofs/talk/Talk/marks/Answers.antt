use Rattle.std.proofs.Common.{rules, ◌≡◌, List, ap, sym, ◌∙◌, length}
use Rattle.std.specs.Vec.{vec_len}
use mathlib.Core.List.{map}
use Rattle.login_edge.specs.Exchanges.{Exchange}
use Rattle.login_edge.specs.Notes.{mark_of}
use Rattle.login_edge.specs.inner.Notes.{TalkState, talk_of}
use Rattle.login_edge.proofs.Cuts.{marks-talk_of}
use Rattle.login_edge.proofs.talk.Talk.marks.Goals as goal

pub returns : goal.returns
returns c =
    let i = c.self.invariant in
    let vh : vec_len c.self.inside.hears ≡ length c.self.inside.hears.items = search rules in
    let vs : vec_len c.self.inside.says ≡ length c.self.inside.says.items = search rules in
    let old : talk_of c.self.inside.marks.items c.self.inside.hears.items c.self.inside.says.items ≡ c.args.self.now.talk = ap (λ (t : TalkState). t.talk) c.self.view_is in
    c.as_slice.ensures.value
    ∙ sym (marks-talk_of c.self.inside.marks.items c.self.inside.hears.items c.self.inside.says.items (i.0 ∙ vh) (i.1 ∙ vs))
    ∙ ap (λ (t : List Exchange). map mark_of t) old
