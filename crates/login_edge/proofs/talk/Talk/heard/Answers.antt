use Rattle.std.proofs.Common.{rules, ◌≡◌, ap, sym, ◌∙◌, length}
use Rattle.std.specs.Vec.{vec_len}
use Rattle.login_edge.specs.Exchanges.{heard_of}
use Rattle.login_edge.specs.inner.Notes.{TalkState, talk_of}
use Rattle.login_edge.proofs.Cuts.{heard_of-talk_of, sized}
use Rattle.login_edge.proofs.talk.Talk.heard.Goals as goal

pub returns : goal.returns
returns c =
    let i = c.self.invariant in
    let vm : vec_len c.self.inside.marks ≡ length c.self.inside.marks.items = search rules in
    let vh : vec_len c.self.inside.hears ≡ length c.self.inside.hears.items = search rules in
    let vs : vec_len c.self.inside.says ≡ length c.self.inside.says.items = search rules in
    let z = sized c.self.inside.marks.items c.self.inside.hears.items c.self.inside.says.items c.self.inside.bytes c.self.inside.pieces c.args.self.now c.self.view_is (i.0 ∙ vh) (i.1 ∙ vs) in
    let old : talk_of c.self.inside.marks.items c.self.inside.hears.items c.self.inside.says.items ≡ c.args.self.now.talk = ap (λ (t : TalkState). t.talk) c.self.view_is in
    c.as_slice.ensures.value
    ∙ sym (heard_of-talk_of c.self.inside.marks.items c.self.inside.hears.items c.self.inside.says.items (i.0 ∙ vh))
    ∙ ap heard_of old
