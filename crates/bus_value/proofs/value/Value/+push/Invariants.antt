use Rattle.std.proofs.Common.{◌≡◌, ◌+◌, ◌++◌, take, length}
use Rattle.bus_value.specs.Values.{vals, entries, parts}
use Rattle.bus_value.specs.Spelling.{spellings, entry_spellings}
use Rattle.bus_value.proofs.value.Value.+push.Given as goal

abbrev pub invariant-loop-element : goal.invariant-loop-element
invariant-loop-element l = l.out.items ≡ l.initial.out.items ++ spellings l.order (l.start + length l.initial.out.items) (vals (take l.element-index l.element-items))

abbrev pub invariant-loop-field : goal.invariant-loop-field
invariant-loop-field l = l.out.items ≡ l.initial.out.items ++ spellings l.order (l.start + length l.initial.out.items) (vals (take l.field-index l.field-items))

abbrev pub invariant-loop-key : goal.invariant-loop-key
invariant-loop-key l = l.out.items ≡ l.initial.out.items ++ entry_spellings l.order (l.start + length l.initial.out.items) (entries (take l.key-index l.key-items))

abbrev pub decreases-push : goal.decreases-push
decreases-push l = parts l.self.now
