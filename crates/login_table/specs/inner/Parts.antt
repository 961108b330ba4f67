-- Facts in several rows, each with the keys of one kind.
use Rattle.std.specs.Prelude.{ℕ, ◌==◌, min, not, Bool, if◌then◌else◌, [], ◌∷◌}
use Rattle.login_model.specs.declared.fact.Key.{Key}
use Rattle.login_model.specs.declared.mark.Mark.TheVariants.{Set, Say}
use Rattle.login_model.specs.Trail.{Trail}
use Rattle.login_table.specs.KeyOrder.{rank_of}
use Rattle.login_table.specs.Rows.{RowList}

-- the settings of such keys, in front of others
abbrev pub in_front : (Key → Bool) → Trail → Trail → Trail
in_front p [] u = u
in_front p (Set k x ∷ t) u = if p k then Set k x ∷ in_front p t u else in_front p t u
in_front p (Say w n ∷ t) u = in_front p t u

-- whether a key is of the kind with this rank
abbrev pub is_of_kind : ℕ → Key → Bool
is_of_kind rank k = rank_of k == rank

abbrev pub is_of_others : ℕ → Key → Bool
is_of_others rank k = not (rank_of k == rank)

-- what two rows tell together: of the keys of one kind the first, and of all others the second
unfoldable pub joined : ℕ → RowList → RowList → RowList
joined rank a b = record {
  trail = in_front (is_of_kind rank) a.trail (in_front (is_of_others rank) b.trail []);
  spare = min a.spare b.spare;
}
