-- The marks of the journal and of the entry under way.
use Rattle.std.proofs.Common.{◌≡◌, List, [], ◌∷◌, ◌++◌, length, refl, ap, sym, subst, ◌∙◌}
use Rattle.login_model.specs.declared.mark.Mark.{Mark}
use Rattle.login_model.specs.declared.mark.Entry.{Entry}
use Rattle.login_model.specs.Trail.{Trail, after}
use Rattle.login_model.specs.Legal.{after_all, trail_of}
use Rattle.login_table.proofs.Appending.{after-more}
use Rattle.login_facts.specs.Facts.{Tables, StandFor}
use Rattle.login_core.specs.inner.UnderWay.{so_far}

-- the marks so far
pub after_all-more : (t : Trail) (es : List Entry) (e : Entry) → after_all t (es ++ e ∷ []) ≡ after (after_all t es) e.marks
after_all-more t [] e = refl
after_all-more t (d ∷ ds) e = after_all-more (after t d.marks) ds e

pub so_far-more : (es : List Entry) (ms : List Mark) (m : Mark) → so_far es (ms ++ m ∷ []) ≡ m ∷ so_far es ms
unfolding so_far
so_far-more es ms m = after-more (trail_of es) ms m

pub so_far-closed : (es : List Entry) (e : Entry) → so_far (es ++ e ∷ []) [] ≡ so_far es e.marks
unfolding so_far
so_far-closed es e = after_all-more [] es e

pub so_far-none : (es : List Entry) → so_far es [] ≡ trail_of es
unfolding so_far
so_far-none es = refl

pub so_far-start : so_far [] [] ≡ []
unfolding so_far
so_far-start = refl

pub none-start : (es : List Entry) (ms : List Mark) → es ≡ [] → ms ≡ [] → length (so_far es ms) ≡ 0
none-start es ms b c = ap length (ap (λ (xs : List Entry). so_far xs ms) b ∙ ap (so_far []) c ∙ so_far-start)

pub stand-start : (f : Tables) (es : List Entry) (ms : List Mark) → StandFor f [] → es ≡ [] → ms ≡ [] → StandFor f (so_far es ms)
stand-start f es ms s b c =
    let e : so_far es ms ≡ [] = ap (λ (xs : List Entry). so_far xs ms) b ∙ ap (so_far []) c ∙ so_far-start in
    let P : Trail → Type 0 = StandFor f in
    subst P (sym e) s
