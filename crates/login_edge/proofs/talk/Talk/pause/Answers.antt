use Rattle.std.proofs.Common.{rules, ◌≡◌, ℕ, [], ◌∷◌, ◌++◌, List, ap, sym, ◌∙◌, append-nil, refl, arith, length}
use Rattle.std.specs.Vec.{vec_len}
use Rattle.login_edge.specs.inner.Notes.{TalkState, talk_of, heard_by, said_by}
use Rattle.login_edge.proofs.Cuts.{heard_by-snoc, said_by-snoc, talk_of-snoc, sized}
use Rattle.login_edge.specs.declared.talk.Mark.TheVariants as mark
use Rattle.login_edge.proofs.talk.Talk.pause.Goals as goal

pub push_reserved-requires : goal.push_reserved-requires
push_reserved-requires c =
    let i = c.self.invariant in
    let vm : vec_len c.self.inside.marks ≡ length c.self.inside.marks.items = search rules in
    let vh : vec_len c.self.inside.hears ≡ length c.self.inside.hears.items = search rules in
    let vs : vec_len c.self.inside.says ≡ length c.self.inside.says.items = search rules in
    let z = sized c.self.inside.marks.items c.self.inside.hears.items c.self.inside.says.items c.self.inside.bytes c.self.inside.pieces c.args.self.now c.self.view_is (i.0 ∙ vh) (i.1 ∙ vs) in
    omega (arith, z.talk, z.pieces, c.requires, i.6, vm)

pub invariant_of-self : goal.invariant_of-self
invariant_of-self c =
    let i = c.self.invariant in
    let vm : vec_len c.self.inside.marks ≡ length c.self.inside.marks.items = search rules in
    let vh : vec_len c.self.inside.hears ≡ length c.self.inside.hears.items = search rules in
    let vs : vec_len c.self.inside.says ≡ length c.self.inside.says.items = search rules in
    let z = sized c.self.inside.marks.items c.self.inside.hears.items c.self.inside.says.items c.self.inside.bytes c.self.inside.pieces c.args.self.now c.self.view_is (i.0 ∙ vh) (i.1 ∙ vs) in
    let h = heard_by-snoc c.self.inside.marks.items mark.Quiet in
    let s = said_by-snoc c.self.inside.marks.items mark.Quiet in
    let ph = ap heard_by c.push_reserved.ensures.items in
    let ps = ap said_by c.push_reserved.ensures.items in (
      ph ∙ h ∙ omega (arith, i.0),
      ps ∙ s ∙ omega (arith, i.1),
      i.2,
      i.3,
      i.4,
      omega (arith, c.push_reserved.ensures.len, z.talk, z.pieces, c.requires, vm),
      omega (arith, i.6, c.push_reserved.ensures.capacity),
    )

pub returns-clause-talk : goal.returns-clause-talk
returns-clause-talk c =
    let i = c.self.invariant in
    let vm : vec_len c.self.inside.marks ≡ length c.self.inside.marks.items = search rules in
    let vh : vec_len c.self.inside.hears ≡ length c.self.inside.hears.items = search rules in
    let vs : vec_len c.self.inside.says ≡ length c.self.inside.says.items = search rules in
    let z = sized c.self.inside.marks.items c.self.inside.hears.items c.self.inside.says.items c.self.inside.bytes c.self.inside.pieces c.args.self.now c.self.view_is (i.0 ∙ vh) (i.1 ∙ vs) in
    let old : talk_of c.self.inside.marks.items c.self.inside.hears.items c.self.inside.says.items ≡ c.args.self.now.talk = ap (λ (t : TalkState). t.talk) c.self.view_is in
    let snoc = talk_of-snoc c.self.inside.marks.items c.self.inside.hears.items c.self.inside.says.items mark.Quiet [] [] (i.0 ∙ vh) (i.1 ∙ vs) in
    ap (λ ms. talk_of ms c.self.inside.hears.items c.self.inside.says.items) c.push_reserved.ensures.items
    ∙ ap (λ (t : List ℕ). talk_of (c.self.inside.marks.items ++ mark.Quiet ∷ []) t c.self.inside.says.items) (sym (append-nil c.self.inside.hears.items))
    ∙ ap (λ (t : List ℕ). talk_of (c.self.inside.marks.items ++ mark.Quiet ∷ []) (c.self.inside.hears.items ++ []) t) (sym (append-nil c.self.inside.says.items))
    ∙ snoc ∙ rw old refl
