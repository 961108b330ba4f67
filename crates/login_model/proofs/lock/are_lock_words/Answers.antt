use Rattle.std.proofs.Common.{◌==◌, rules, tests}
use Rattle.std.proofs.lemmas.Iterator.Search.{all_from_yields_List}
use Rattle.std.proofs.lemmas.Iterator.Splits.{YieldsList-from_slice_split}
use Rattle.login_model.specs.Locks.{has_word}
use Rattle.login_model.specs.Words.{lock_words}
use Rattle.login_model.proofs.lock.are_lock_words.Goals as goal

pub returns : goal.returns
returns c =
    all_from_yields_List (has_word lock_words) _ _ _ c.all.ensures.ran
    (YieldsList-from_slice_split _ (λ b. b == 58) c.args.text.now c.split.ensures.rest c.split.ensures.done c.split.ensures.closure (λ x b q k. search (rules, tests)))
    (λ x b q k. search (rules, tests))
