-- What a turn of a pass leaves.
use Rattle.std.proofs.Common.{◌≡◌, ℕ, ◌<◌, List, [], ◌∷◌, ◌++◌, refl, ap, sym, ◌∙◌, append-nil, append_assoc, ap₂, Bool, cond}
use Rattle.std.proofs.lemmas.Bool.{eq-eqb}
use Rattle.std.proofs.lemmas.List.{append_cancel_left}
use Rattle.login_model.specs.declared.mark.Entry.{Entry}
use Rattle.login_model.specs.declared.setup.Setup.{Setup}
use Rattle.desk.specs.History.{entries, numbered, of_pass, of_who}
use Rattle.desk.specs.Passes.{TakesTurn}
use Rattle.desk.specs.declared.view.View.{View}
use Rattle.desk.proofs.Histories.{entries_append, of_pass_append}
use Rattle.link_serve.specs.Owners.{entry_who}
use Rattle.link_serve.specs.Turned.{Acts}

numbers-dropped : (n : ℕ) (es : List Entry) → entries (numbered n es) ≡ es
numbers-dropped n [] = refl
numbers-dropped n (e ∷ es) = ap (λ (xs : List Entry). e ∷ xs) (numbers-dropped n es)

own-numbered : (n : ℕ) (es : List Entry) → of_pass n (numbered n es) ≡ es
own-numbered n [] = refl
own-numbered n (e ∷ es) = ap (λ (b : Bool). cond b (e ∷ of_pass n (numbered n es)) (of_pass n (numbered n es))) (eq-eqb n n refl) ∙ ap (λ (xs : List Entry). e ∷ xs) (own-numbered n es)

-- a turn, with the entries that its act appended
pub turned : {does : Setup → List Entry → List Entry → Type 0} (v w : View Setup Entry) (own : List Entry) (t : TakesTurn entry_who does v w)
    → (0 < w.who → of_who entry_who w.who (entries w.seen) ≡ w.mine) → entries w.seen ≡ entries (v.seen ++ t.more) ++ own → Acts v w (entries (v.seen ++ t.more)) own
turned v w own t mine is =
    let J = entries (v.seen ++ t.more) in
    let all : entries w.seen ≡ J ++ t.own =
    ap (λ (z : View Setup Entry). entries z.seen) t.now ∙ (entries_append (v.seen ++ t.more) (numbered v.number t.own) ∙ ap (λ (z : List Entry). J ++ z) (numbers-dropped v.number t.own)) in
    let same : t.own ≡ own = append_cancel_left J t.own own (sym all ∙ is) in
    record {
      others = entries t.more;
      before_is = entries_append v.seen t.more;
      seen_is = is;
      mine_is = ap (λ (z : View Setup Entry). z.mine) t.now ∙ ap (λ (z : List Entry). v.mine ++ z) same;
      setup_is = ap (λ (z : View Setup Entry). z.setup) t.now;
      who_is = ap (λ (z : View Setup Entry). z.who) t.now;
      number_is = ap (λ (z : View Setup Entry). z.number) t.now;
      seen_on = (t.more ++ numbered v.number t.own, ap (λ (z : View Setup Entry). z.seen) t.now ∙ append_assoc v.seen t.more (numbered v.number t.own));
      own_on = λ was.
          ap (λ (z : View Setup Entry). of_pass z.number z.seen) t.now
          ∙ (of_pass_append v.number (v.seen ++ t.more) (numbered v.number t.own)
          ∙ (ap (λ (z : List Entry). z ++ of_pass v.number (numbered v.number t.own)) (of_pass_append v.number v.seen t.more ∙ ap₂ (λ (a b : List Entry). a ++ b) was t.others ∙ append-nil v.mine)
          ∙ (ap (λ (z : List Entry). v.mine ++ z) (own-numbered v.number t.own) ∙ sym (ap (λ (z : View Setup Entry). z.mine) t.now))));
      given_is = ap (λ (z : View Setup Entry). z.given) t.now;
      made_is = ap (λ (z : View Setup Entry). z.made) t.now;
      out_is = ap (λ (z : View Setup Entry). z.out) t.now;
      joined_is = ap (λ (z : View Setup Entry). z.joined) t.now;
      in_journal = mine;
    }

-- one that appended nothing
pub turned-quiet : {does : Setup → List Entry → List Entry → Type 0} (v w : View Setup Entry) (t : TakesTurn entry_who does v w)
    → (0 < w.who → of_who entry_who w.who (entries w.seen) ≡ w.mine) → entries w.seen ≡ entries (v.seen ++ t.more) → Acts v w (entries (v.seen ++ t.more)) []
turned-quiet v w t mine is = turned v w [] t mine (is ∙ sym (append-nil (entries (v.seen ++ t.more))))
