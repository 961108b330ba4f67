use Rattle.std.proofs.Common.{rules, ◌≡◌, ◌∙◌, sym, ℕ, ◌<◌, length, List, slice_index_or, subst}
use Rattle.std.proofs.lemmas.List.{same_lists, get_or-map}
use Rattle.login_model.specs.declared.action.Action.TheVariants.{ChangeVt}
use Rattle.login_model.specs.declared.table.Row.{Row}
use Rattle.login_model.specs.Action.{action_count, actions}
use Rattle.login_model.specs.Table.{default_row, default_table, row_of}
use Rattle.login_model.proofs.ActionLaws.{row_of-default_table}
use Rattle.login_model.proofs.table.TableDefault.default.Goals as goal

pub returns : goal.returns
returns c =
    let long : length c.map.result ≡ action_count = search rules in
    let same : c.map.result ≡ default_table = same_lists c.map.result default_table long (λ k d h.
    let called = (c.map.ensures.items.at k ChangeVt d (subst (λ (n : ℕ). k < n) c.map.ensures.items.long h)).2 in
    let row : slice_index_or c.map.result k d ≡ default_row (slice_index_or actions k ChangeVt) = search (rules, called) in
    row ∙ sym (get_or-map default_row actions k ChangeVt d (subst (λ (n : ℕ). k < n) long h)))
    in record {
      rows = λ action. subst (λ (table : List Row). row_of table action ≡ default_row action) (sym same) (row_of-default_table action);
      table_is = same;
    }
