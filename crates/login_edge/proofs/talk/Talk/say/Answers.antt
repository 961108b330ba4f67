use Rattle.std.proofs.Common.{rules, ◌≡◌, ℕ, ◌+◌, [], ◌∷◌, ◌++◌, List, ap, sym, ◌∙◌, append-nil, refl, arith, take, length}
use Rattle.std.proofs.lemmas.List.{take_all}
use Rattle.std.specs.Vec.{vec_len}
use Rattle.login_edge.specs.inner.Notes.{TalkState, talk_of, heard_by, said_by}
use Rattle.login_edge.proofs.Cuts.{heard_by-snoc, said_by-snoc, talk_of-snoc, sized}
use Rattle.login_edge.specs.declared.talk.Mark.TheVariants as mark
use Rattle.login_edge.proofs.talk.Talk.say.Goals as goal

pub unwrap-requires : goal.unwrap-requires
unwrap-requires c =
    let i = c.self.invariant in
    let vm : vec_len c.self.inside.marks ≡ length c.self.inside.marks.items = search rules in
    let vh : vec_len c.self.inside.hears ≡ length c.self.inside.hears.items = search rules in
    let vs : vec_len c.self.inside.says ≡ length c.self.inside.says.items = search rules in
    let z = sized c.self.inside.marks.items c.self.inside.hears.items c.self.inside.says.items c.self.inside.bytes c.self.inside.pieces c.args.self.now c.self.view_is (i.0 ∙ vh) (i.1 ∙ vs) in
    c.extend_from_slice.ensures.succeeds (omega (arith, z.size, z.bytes, c.requires.bytes, i.2, i.3, i.4, vh, vs))

pub push_reserved-requires : goal.push_reserved-requires
push_reserved-requires c =
    let i = c.self.invariant in
    let vm : vec_len c.self.inside.marks ≡ length c.self.inside.marks.items = search rules in
    let vh : vec_len c.self.inside.hears ≡ length c.self.inside.hears.items = search rules in
    let vs : vec_len c.self.inside.says ≡ length c.self.inside.says.items = search rules in
    let z = sized c.self.inside.marks.items c.self.inside.hears.items c.self.inside.says.items c.self.inside.bytes c.self.inside.pieces c.args.self.now c.self.view_is (i.0 ∙ vh) (i.1 ∙ vs) in
    omega (arith, z.talk, z.pieces, c.requires.piece, i.6, vm)

pub invariant_of-self : goal.invariant_of-self
invariant_of-self c =
    let i = c.self.invariant in
    let vm : vec_len c.self.inside.marks ≡ length c.self.inside.marks.items = search rules in
    let vh : vec_len c.self.inside.hears ≡ length c.self.inside.hears.items = search rules in
    let vs : vec_len c.self.inside.says ≡ length c.self.inside.says.items = search rules in
    let z = sized c.self.inside.marks.items c.self.inside.hears.items c.self.inside.says.items c.self.inside.bytes c.self.inside.pieces c.args.self.now c.self.view_is (i.0 ∙ vh) (i.1 ∙ vs) in
    let grown : vec_len c.extend_from_slice.new.self ≡ vec_len c.self.inside.says + length c.args.piece.now = search rules in
    let h = heard_by-snoc c.self.inside.marks.items (mark.Said (length c.args.piece.now)) in
    let s = said_by-snoc c.self.inside.marks.items (mark.Said (length c.args.piece.now)) in
    let ph = ap heard_by c.push_reserved.ensures.items in
    let ps = ap said_by c.push_reserved.ensures.items in (
      ph ∙ h ∙ omega (arith, i.0),
      ps ∙ s ∙ omega (arith, i.1, grown),
      omega (arith, z.size, z.bytes, c.requires.bytes, grown, vh, vs),
      i.3,
      omega (arith, i.4, c.extend_from_slice.ensures.capacity),
      omega (arith, c.push_reserved.ensures.len, z.talk, z.pieces, c.requires.piece, vm),
      omega (arith, i.6, c.push_reserved.ensures.capacity),
    )

pub returns-clause-talk : goal.returns-clause-talk
returns-clause-talk c =
    let i = c.self.invariant in
    let vm : vec_len c.self.inside.marks ≡ length c.self.inside.marks.items = search rules in
    let vh : vec_len c.self.inside.hears ≡ length c.self.inside.hears.items = search rules in
    let vs : vec_len c.self.inside.says ≡ length c.self.inside.says.items = search rules in
    let z = sized c.self.inside.marks.items c.self.inside.hears.items c.self.inside.says.items c.self.inside.bytes c.self.inside.pieces c.args.self.now c.self.view_is (i.0 ∙ vh) (i.1 ∙ vs) in
    let old : talk_of c.self.inside.marks.items c.self.inside.hears.items c.self.inside.says.items ≡ c.args.self.now.talk = ap (λ (t : TalkState). t.talk) c.self.view_is in
    let added : c.extend_from_slice.new.self.items ≡ c.self.inside.says.items ++ c.args.piece.now = search rules in
    let snoc = talk_of-snoc c.self.inside.marks.items c.self.inside.hears.items c.self.inside.says.items (mark.Said (length c.args.piece.now)) [] c.args.piece.now (i.0 ∙ vh) (i.1 ∙ vs) in
    let whole : take (length c.args.piece.now) c.args.piece.now ≡ c.args.piece.now = take_all (length c.args.piece.now) c.args.piece.now (omega arith) in
    ap (λ ms. talk_of ms c.self.inside.hears.items c.extend_from_slice.new.self.items) c.push_reserved.ensures.items
    ∙ ap (λ (t : List ℕ). talk_of (c.self.inside.marks.items ++ (mark.Said (length c.args.piece.now)) ∷ []) c.self.inside.hears.items t) added
    ∙ ap (λ (t : List ℕ). talk_of (c.self.inside.marks.items ++ (mark.Said (length c.args.piece.now)) ∷ []) t (c.self.inside.says.items ++ c.args.piece.now)) (sym (append-nil c.self.inside.hears.items))
    ∙ snoc ∙ rw (old, whole) refl
