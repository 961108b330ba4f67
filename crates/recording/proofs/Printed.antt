-- Laws of texts that are printed part by part.
use Rattle.std.proofs.Common.{◌≡◌, ℕ, List, [], ◌∷◌, ◌++◌, Result, Ok, Err, OnOk, codes, map, refl, ap, sym, ◌∙◌, append_assoc, append-nil}
use Rattle.std.specs.List.{join_with_byte, flat_map}
use Rattle.std.specs.Fmt.{decimal}
use Rattle.login_model.specs.declared.rule.Verdict.{Verdict}
use Rattle.login_model.specs.declared.rule.Verdict.TheVariants.{Granted, Denied}
use Rattle.login_model.specs.declared.answer.Answer.{Answer}
use Rattle.login_model.specs.declared.mark.Whom.TheVariants.{One, All}
use Rattle.login_model.specs.declared.mark.Mark.{Mark}
use Rattle.login_model.specs.declared.mark.Mark.TheVariants.{Set, Say}
use Rattle.login_model.specs.declared.mark.Entry.{Entry}
use Rattle.recording.specs.Lines.{event_words}
use Rattle.recording.specs.MarkWords.{key_words, fact_words, notice_words, mark_words}
use Rattle.login_model.specs.RuleWords.{rule_words}
use Rattle.recording.specs.AnswerWords.{answer_words}
use Rattle.recording.specs.Print.{verdict_words, indented, block}
use Rattle.login_model.specs.inner.Prefixed.{spaced}

-- two parts, the second by a call whose answer is handed on
pub two_parts : {T E : Type 0} (r : Result T E) (old mid new a b c : List ℕ) → mid ≡ old ++ a → OnOk r (new ≡ mid ++ b) → a ++ b ≡ c → OnOk r (new ≡ old ++ c)
two_parts (Ok x) old mid new a b c first second whole = second ∙ (ap (λ (t : List ℕ). t ++ b) first ∙ (append_assoc old a b ∙ ap (λ (t : List ℕ). old ++ t) whole))
two_parts (Err e) old mid new a b c first second whole = tt

pub spaced-append : (xs ys : List (List ℕ)) → spaced (xs ++ ys) ≡ spaced xs ++ spaced ys
spaced-append [] ys = refl
spaced-append (x ∷ xs) ys = ap (λ (t : List ℕ). 32 ∷ t) (ap (λ (t : List ℕ). x ++ t) (spaced-append xs ys) ∙ sym (append_assoc x (spaced xs) (spaced ys)))

-- words in a line are the first and then each after a space
pub join_with_byte-spaced : (word : List ℕ) (words : List (List ℕ)) → join_with_byte 32 (word ∷ words) ≡ word ++ spaced words
join_with_byte-spaced word [] = sym (append-nil word)
join_with_byte-spaced word (v ∷ vs) = ap (λ (t : List ℕ). word ++ (32 ∷ t)) (join_with_byte-spaced v vs)

-- values with a space between any two are the first and then each after a space
pub joined_map : {A : Type 0} (f : A → List ℕ) (x : A) (xs : List A) → join_with_byte 32 (f x ∷ map f xs) ≡ f x ++ flat_map (λ y. 32 ∷ f y) xs
joined_map f x [] = sym (append-nil (f x))
joined_map f x (y ∷ ys) = ap (λ (t : List ℕ). f x ++ (32 ∷ t)) (joined_map f y ys)

mark_words-indented : (m : Mark) → indented (mark_words m) ≡ spaced (mark_words m) ++ 10 ∷ []
unfolding mark_words
mark_words-indented (Set k x) = ap (λ (t : List ℕ). 32 ∷ (t ++ 10 ∷ [])) (join_with_byte-spaced (codes "set") (key_words k ++ fact_words k x))
mark_words-indented (Say (One c) n) = ap (λ (t : List ℕ). 32 ∷ (t ++ 10 ∷ [])) (join_with_byte-spaced (codes "say") (decimal c.0 ∷ notice_words n))
mark_words-indented (Say All n) = ap (λ (t : List ℕ). 32 ∷ (t ++ 10 ∷ [])) (join_with_byte-spaced (codes "all") (notice_words n))

marks-indented : (ms : List Mark) → flat_map (λ (m : Mark). indented (mark_words m)) ms ≡ flat_map (λ (m : Mark). spaced (mark_words m) ++ 10 ∷ []) ms
marks-indented [] = refl
marks-indented (m ∷ ms) = ap (λ (t : List ℕ). t ++ flat_map (λ (m : Mark). indented (mark_words m)) ms) (mark_words-indented m) ∙ ap (λ (t : List ℕ). (spaced (mark_words m) ++ 10 ∷ []) ++ t) (marks-indented ms)

verdict_words-indented : (v : Verdict) (a : Answer) → indented (verdict_words v a) ≡ spaced (verdict_words v a) ++ 10 ∷ []
verdict_words-indented Granted a = ap (λ (t : List ℕ). 32 ∷ (t ++ 10 ∷ [])) (join_with_byte-spaced (codes "granted") (answer_words a))
verdict_words-indented (Denied r) a = ap (λ (t : List ℕ). 32 ∷ (t ++ 10 ∷ [])) (join_with_byte-spaced (codes "denied") (rule_words r))

regroup : (a n v m : List ℕ) → (a ++ n) ++ ((v ++ n) ++ m) ≡ (((a ++ n) ++ v) ++ n) ++ m
regroup a n v m = simp append_assoc

-- the parts of a block
pub block-spaced : (number : ℕ) (e : Entry) → block number e
    ≡ ((((decimal number ++ spaced (event_words e.event)) ++ 10 ∷ []) ++ spaced (verdict_words e.verdict e.answer)) ++ 10 ∷ []) ++ flat_map (λ (m : Mark). spaced (mark_words m) ++ 10 ∷ []) e.marks
unfolding block
block-spaced number e =
    let a = decimal number ++ spaced (event_words e.event) in
    let v = spaced (verdict_words e.verdict e.answer) in
    let m = flat_map (λ (m : Mark). spaced (mark_words m) ++ 10 ∷ []) e.marks in
    ap (λ (t : List ℕ). (t ++ 10 ∷ []) ++ (indented (verdict_words e.verdict e.answer) ++ flat_map (λ (m : Mark). indented (mark_words m)) e.marks)) (join_with_byte-spaced (decimal number) (event_words e.event))
    ∙ (ap (λ (t : List ℕ). (a ++ 10 ∷ []) ++ (t ++ flat_map (λ (m : Mark). indented (mark_words m)) e.marks)) (verdict_words-indented e.verdict e.answer)
    ∙ (ap (λ (t : List ℕ). (a ++ 10 ∷ []) ++ ((v ++ 10 ∷ []) ++ t)) (marks-indented e.marks) ∙ regroup a (10 ∷ []) v m))
