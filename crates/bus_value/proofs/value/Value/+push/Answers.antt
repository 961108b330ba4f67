use Rattle.std.proofs.Common.{rules, arith, subst, sym, ap, ◌∙◌, refl, ◌≡◌, ℕ, List, length, ◌+◌, ◌++◌, ◌-◌, take, drop}
use Rattle.bus_value.specs.declared.basic_value.BasicValue.{BasicValue}
use Rattle.bus_value.specs.Values.{Val, vals, entries, array, struct, dict, parts}
use Rattle.bus_value.specs.inner.Nodes.{value_of}
use Rattle.bus_value.specs.Alignment.{boundary}
use Rattle.bus_value.specs.Spelling.{first_element, pad_size}
use Rattle.bus_value.specs.inner.Spelling.{array_front}
use Rattle.bus_value.specs.Numbers.{number_bytes}
use Rattle.bus_value.specs.Limits.{Fits, AllFit, EntriesFit}
use Rattle.bus_names.proofs.Fronts.{kept_once, kept_behind, on_err}
use Rattle.bus_value.proofs.Rows.{value_fits, value_pushed, behind_padding, behind_front, entry_fits, entry_pushed, value_place, Closes, array_closes, dict_closes, array_written, dict_written, item_smaller, pair_smaller}
use Rattle.bus_value.proofs.value.Value.+push.Goals as goal

pub push-requires : goal.push-requires
push-requires t c =
    let o = c.args.order in
    let p : ℕ = c.args.start + length c.args.out.now.items in
    let kind = c.in-Array.kind in
    let whole : array kind (vals c.in-Array.elements.items) ≡ c.args.self.now = ap value_of (sym c.in-Array.is) ∙ c.self.view_is in
    let fit : Fits o p (array kind (vals c.in-Array.elements.items)) = subst (λ (v : Val). Fits o p v) (sym whole) c.requires in
    let all : AllFit o (first_element p (boundary kind)) (vals c.deref-element-items.result.now) = subst (λ (vs : List Val). AllFit o (first_element p (boundary kind)) (vals vs)) (sym c.deref-element-items.ensures.value) fit.1 in
    let front : c.begin_array.new.out.items ≡ c.args.out.now.items ++ array_front o p (boundary kind) 0 = c.in_ok-at-in-Array.ensures.bytes ∙ ap (λ (n : ℕ). c.args.out.now.items ++ array_front o p n 0) c.boundary.ensures.value in (
      let less = item_smaller c.in-Array.elements.items c.deref-element-items.result.now c.loop-element.element-index c.element-item.result c.args.self.now c.loop-element-test.true c.element-item.is c.deref-element-items.ensures.value (ap parts whole) in omega (arith, less),
      value_fits o c.args.start (first_element p (boundary kind)) c.begin_array.new.out.items c.loop-element.out.items c.loop-element.element-index c.deref-element-items.result.now c.element-item.result
          (behind_front o c.args.start p (boundary kind) c.args.out.now.items c.begin_array.new.out.items refl front) c.loop-element.invariant c.loop-element-test.true c.element-item.is all,
    )

pub loop-element-preserved : goal.loop-element-preserved
loop-element-preserved t c =
    value_pushed c.args.order c.args.start c.begin_array.new.out.items c.loop-element.out.items c.push.new.out.items c.loop-element.element-index c.deref-element-items.result.now c.element-item.result
    c.loop-element.invariant c.loop-element-test.true c.element-item.is c.in_ok-push-in-Array.ensures.value

pub push-requires-in-loop-field : goal.push-requires-in-loop-field
push-requires-in-loop-field t c =
    let o = c.args.order in
    let p : ℕ = c.args.start + length c.args.out.now.items in
    let whole : struct (vals c.in-Struct.fields.items) ≡ c.args.self.now = ap value_of (sym c.in-Struct.is) ∙ c.self.view_is in
    let fit : Fits o p (struct (vals c.in-Struct.fields.items)) = subst (λ (v : Val). Fits o p v) (sym whole) c.requires in
    let all : AllFit o (p + pad_size p 8) (vals c.deref-field-items.result.now) = subst (λ (vs : List Val). AllFit o (p + pad_size p 8) (vals vs)) (sym c.deref-field-items.ensures.value) fit in (
      let less = item_smaller c.in-Struct.fields.items c.deref-field-items.result.now c.loop-field.field-index c.field-item.result c.args.self.now c.loop-field-test.true c.field-item.is c.deref-field-items.ensures.value (ap parts whole) in omega (arith, less),
      value_fits o c.args.start (p + pad_size p 8) c.push_padding.new.out.items c.loop-field.out.items c.loop-field.field-index c.deref-field-items.result.now c.field-item.result
          (behind_padding c.args.start p 8 c.args.out.now.items c.push_padding.new.out.items refl c.in_ok-push_padding-in-Struct.ensures.value) c.loop-field.invariant c.loop-field-test.true c.field-item.is all,
    )

pub loop-field-preserved : goal.loop-field-preserved
loop-field-preserved t c =
    value_pushed c.args.order c.args.start c.push_padding.new.out.items c.loop-field.out.items c.push-in-loop-field.new.out.items c.loop-field.field-index c.deref-field-items.result.now c.field-item.result
    c.loop-field.invariant c.loop-field-test.true c.field-item.is c.in_ok-push-in-Struct.ensures.value

pub push_basic-requires-in-loop-key : goal.push_basic-requires-in-loop-key
push_basic-requires-in-loop-key t c =
    let o = c.args.order in
    let p : ℕ = c.args.start + length c.args.out.now.items in
    let whole : dict c.in-Dict.field-0 c.in-Dict.field-1 (entries c.in-Dict.pairs.items) ≡ c.args.self.now = ap value_of (sym c.in-Dict.is) ∙ c.self.view_is in
    let fit : Fits o p (dict c.in-Dict.field-0 c.in-Dict.field-1 (entries c.in-Dict.pairs.items)) = subst (λ (v : Val). Fits o p v) (sym whole) c.requires in
    let all : EntriesFit o (first_element p 8) (entries c.deref-key-items.result.now) = subst (λ (es : List (BasicValue × Val)). EntriesFit o (first_element p 8) (entries es)) (sym c.deref-key-items.ensures.value) fit.1 in
    let h = entry_fits o c.args.start (first_element p 8) c.begin_array-in-Dict.new.out.items c.loop-key.out.items c.loop-key.key-index c.deref-key-items.result.now c.loop-key-item.result
    (behind_front o c.args.start p 8 c.args.out.now.items c.begin_array-in-Dict.new.out.items refl c.in_ok-at-in-Dict.ensures.bytes) c.loop-key.invariant c.loop-key-test.true c.loop-key-item.is all in
    h.0

pub push-requires-in-loop-key : goal.push-requires-in-loop-key
push-requires-in-loop-key t c =
    let o = c.args.order in
    let p : ℕ = c.args.start + length c.args.out.now.items in
    let whole : dict c.in-Dict.field-0 c.in-Dict.field-1 (entries c.in-Dict.pairs.items) ≡ c.args.self.now = ap value_of (sym c.in-Dict.is) ∙ c.self.view_is in
    let fit : Fits o p (dict c.in-Dict.field-0 c.in-Dict.field-1 (entries c.in-Dict.pairs.items)) = subst (λ (v : Val). Fits o p v) (sym whole) c.requires in
    let all : EntriesFit o (first_element p 8) (entries c.deref-key-items.result.now) = subst (λ (es : List (BasicValue × Val)). EntriesFit o (first_element p 8) (entries es)) (sym c.deref-key-items.ensures.value) fit.1 in
    let h = entry_fits o c.args.start (first_element p 8) c.begin_array-in-Dict.new.out.items c.loop-key.out.items c.loop-key.key-index c.deref-key-items.result.now c.loop-key-item.result
    (behind_front o c.args.start p 8 c.args.out.now.items c.begin_array-in-Dict.new.out.items refl c.in_ok-at-in-Dict.ensures.bytes) c.loop-key.invariant c.loop-key-test.true c.loop-key-item.is all in (
      let less = pair_smaller c.in-Dict.pairs.items c.deref-key-items.result.now c.loop-key.key-index c.loop-key-item.result c.args.self.now c.loop-key-test.true c.loop-key-item.is c.deref-key-items.ensures.value (ap parts whole) in omega (arith, less),
      subst (λ (m : ℕ). Fits o m c.loop-key-item.result.1)
          (sym (value_place o c.args.start c.loop-key.out.items c.push_padding-in-loop-key.new.out.items c.push_basic-in-loop-key.new.out.items c.loop-key-item.result.0 c.in_ok-push_padding-in-Dict.ensures.value c.in_ok-push_basic-in-Dict.ensures.value)) h.1,
    )

pub loop-key-preserved : goal.loop-key-preserved
loop-key-preserved t c =
    entry_pushed c.args.order c.args.start c.begin_array-in-Dict.new.out.items c.loop-key.out.items c.push_padding-in-loop-key.new.out.items c.push_basic-in-loop-key.new.out.items c.push-in-loop-key.new.out.items
    c.loop-key.key-index c.deref-key-items.result.now c.loop-key-item.result c.loop-key.invariant c.loop-key-test.true c.loop-key-item.is c.in_ok-push_padding-in-Dict.ensures.value c.in_ok-push_basic-in-Dict.ensures.value c.in_ok-push-in-Dict.ensures.value

pub returns-after-loop-element-clause-value : goal.returns-after-loop-element-clause-value
returns-after-loop-element-clause-value t c =
    let o = c.args.order in
    let p : ℕ = c.args.start + length c.args.out.now.items in
    let kind = c.in-Array.kind in
    let whole : array kind (vals c.in-Array.elements.items) ≡ c.args.self.now = ap value_of (sym c.in-Array.is) ∙ c.self.view_is in
    let front : c.begin_array.new.out.items ≡ c.args.out.now.items ++ array_front o p (boundary kind) 0 = c.in_ok-at-in-Array.ensures.bytes ∙ ap (λ (n : ℕ). c.args.out.now.items ++ array_front o p n 0) c.boundary.ensures.value in
    let long : c.len-first.result ≡ length c.begin_array.new.out.items = search rules in
    let at : ℕ = c.in_ok-at-in-Array.at in
    let closed : c.end_array.new.out.items ≡ take at c.loop-element.out.items ++ (number_bytes o 4 (length c.loop-element.out.items - length c.begin_array.new.out.items) ++ drop (at + 4) c.loop-element.out.items) =
    c.end_array.ensures ∙ ap (λ (n : ℕ). take at c.loop-element.out.items ++ (number_bytes o 4 (length c.loop-element.out.items - n) ++ drop (at + 4) c.loop-element.out.items)) long in
    array_written o c.args.start at c.loop-element.element-index kind c.args.out.now.items c.begin_array.new.out.items c.loop-element.out.items c.end_array.new.out.items c.in-Array.elements.items c.deref-element-items.result.now c.args.self.now
    front c.loop-element.invariant c.in_ok-at-in-Array.ensures.place closed c.loop-element-test.false c.deref-element-items.ensures.value whole

pub returns-after-loop-key-clause-value : goal.returns-after-loop-key-clause-value
returns-after-loop-key-clause-value t c =
    let o = c.args.order in
    let whole : dict c.in-Dict.field-0 c.in-Dict.field-1 (entries c.in-Dict.pairs.items) ≡ c.args.self.now = ap value_of (sym c.in-Dict.is) ∙ c.self.view_is in
    let long : c.len-first-in-Dict.result ≡ length c.begin_array-in-Dict.new.out.items = search rules in
    let at : ℕ = c.in_ok-at-in-Dict.at in
    let closed : c.end_array-in-Dict.new.out.items ≡ take at c.loop-key.out.items ++ (number_bytes o 4 (length c.loop-key.out.items - length c.begin_array-in-Dict.new.out.items) ++ drop (at + 4) c.loop-key.out.items) =
    c.end_array-in-Dict.ensures ∙ ap (λ (n : ℕ). take at c.loop-key.out.items ++ (number_bytes o 4 (length c.loop-key.out.items - n) ++ drop (at + 4) c.loop-key.out.items)) long in
    dict_written o c.args.start at c.loop-key.key-index c.in-Dict.field-0 c.in-Dict.field-1 c.args.out.now.items c.begin_array-in-Dict.new.out.items c.loop-key.out.items c.end_array-in-Dict.new.out.items c.in-Dict.pairs.items c.deref-key-items.result.now c.args.self.now
    c.in_ok-at-in-Dict.ensures.bytes c.loop-key.invariant c.in_ok-at-in-Dict.ensures.place closed c.loop-key-test.false c.deref-key-items.ensures.value whole

pub returns-in_err-push-in-Array-clause-kept : goal.returns-in_err-push-in-Array-clause-kept
returns-in_err-push-in-Array-clause-kept t c =
    on_err c.from_residual-in_err-push-in-Array.result
    (kept_behind c.args.out.now.items c.begin_array.new.out.items c.loop-element.out.items c.push.new.out.items _ _ c.in_ok-at-in-Array.ensures.bytes c.loop-element.invariant c.in_err-push-in-Array.ensures.kept)

pub returns-in_err-push-in-Struct-clause-kept : goal.returns-in_err-push-in-Struct-clause-kept
returns-in_err-push-in-Struct-clause-kept t c =
    on_err c.from_residual-in_err-push-in-Struct.result
    (kept_behind c.args.out.now.items c.push_padding.new.out.items c.loop-field.out.items c.push-in-loop-field.new.out.items _ _ c.in_ok-push_padding-in-Struct.ensures.value c.loop-field.invariant c.in_err-push-in-Struct.ensures.kept)

pub returns-in_err-push_basic-in-Dict-clause-kept : goal.returns-in_err-push_basic-in-Dict-clause-kept
returns-in_err-push_basic-in-Dict-clause-kept t c =
    let padded = kept_once c.loop-key.out.items c.push_padding-in-loop-key.new.out.items c.push_basic-in-loop-key.new.out.items _ c.in_ok-push_padding-in-Dict.ensures.value c.in_err-push_basic-in-Dict.ensures.kept in
    on_err c.from_residual-in_err-push_basic-in-Dict.result
    (kept_behind c.args.out.now.items c.begin_array-in-Dict.new.out.items c.loop-key.out.items c.push_basic-in-loop-key.new.out.items _ _ c.in_ok-at-in-Dict.ensures.bytes c.loop-key.invariant padded)

pub returns-in_err-push-in-Dict-clause-kept : goal.returns-in_err-push-in-Dict-clause-kept
returns-in_err-push-in-Dict-clause-kept t c =
    let keyed = kept_behind c.loop-key.out.items c.push_padding-in-loop-key.new.out.items c.push_basic-in-loop-key.new.out.items c.push-in-loop-key.new.out.items _ _ c.in_ok-push_padding-in-Dict.ensures.value c.in_ok-push_basic-in-Dict.ensures.value c.in_err-push-in-Dict.ensures.kept in
    on_err c.from_residual-in_err-push-in-Dict.result
    (kept_behind c.args.out.now.items c.begin_array-in-Dict.new.out.items c.loop-key.out.items c.push-in-loop-key.new.out.items _ _ c.in_ok-at-in-Dict.ensures.bytes c.loop-key.invariant keyed)

pub end_array-requires : goal.end_array-requires
end_array-requires t c =
    let kind = c.in-Array.kind in
    let whole : array kind (vals c.in-Array.elements.items) ≡ c.args.self.now = ap value_of (sym c.in-Array.is) ∙ c.self.view_is in
    let front : c.begin_array.new.out.items ≡ c.args.out.now.items ++ array_front c.args.order (c.args.start + length c.args.out.now.items) (boundary kind) 0 =
    c.in_ok-at-in-Array.ensures.bytes ∙ ap (λ (n : ℕ). c.args.out.now.items ++ array_front c.args.order (c.args.start + length c.args.out.now.items) n 0) c.boundary.ensures.value in
    let long : c.len-first.result ≡ length c.begin_array.new.out.items = search rules in
    let k : Closes c.in_ok-at-in-Array.at c.len-first.result c.loop-element.out.items = subst (λ (n : ℕ). Closes c.in_ok-at-in-Array.at n c.loop-element.out.items) (sym long)
    (array_closes c.args.order c.args.start c.in_ok-at-in-Array.at c.loop-element.element-index kind c.args.out.now.items c.begin_array.new.out.items c.loop-element.out.items c.in-Array.elements.items c.deref-element-items.result.now c.args.self.now
    front c.loop-element.invariant c.in_ok-at-in-Array.ensures.place c.loop-element-test.false c.deref-element-items.ensures.value whole c.requires) in
    record { room = k.room; within = k.within; small = k.small }

pub end_array-requires-in-Dict : goal.end_array-requires-in-Dict
end_array-requires-in-Dict t c =
    let whole : dict c.in-Dict.field-0 c.in-Dict.field-1 (entries c.in-Dict.pairs.items) ≡ c.args.self.now = ap value_of (sym c.in-Dict.is) ∙ c.self.view_is in
    let long : c.len-first-in-Dict.result ≡ length c.begin_array-in-Dict.new.out.items = search rules in
    let k : Closes c.in_ok-at-in-Dict.at c.len-first-in-Dict.result c.loop-key.out.items = subst (λ (n : ℕ). Closes c.in_ok-at-in-Dict.at n c.loop-key.out.items) (sym long)
    (dict_closes c.args.order c.args.start c.in_ok-at-in-Dict.at c.loop-key.key-index c.in-Dict.field-0 c.in-Dict.field-1 c.args.out.now.items c.begin_array-in-Dict.new.out.items c.loop-key.out.items c.in-Dict.pairs.items c.deref-key-items.result.now c.args.self.now
    c.in_ok-at-in-Dict.ensures.bytes c.loop-key.invariant c.in_ok-at-in-Dict.ensures.place c.loop-key-test.false c.deref-key-items.ensures.value whole c.requires) in
    record { room = k.room; within = k.within; small = k.small }
