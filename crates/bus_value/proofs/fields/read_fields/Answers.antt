use Rattle.std.proofs.Common.{◌≡◌, ℕ, ◌+◌, ◌∷◌, [], ◌∙◌, Ok, Err, ap, inr, sym, rules, subst, drop, take}
use Rattle.bus_value.specs.declared.fault.ValueFault.TheVariants.{BadLength}
use Rattle.bus_value.specs.declared.reader.Reader.{Reader}
use Rattle.bus_value.specs.Fields.{field_type, list_type, kept_in}
use Rattle.bus_value.specs.inner.Fields.{kept_by}
use Rattle.bus_value.specs.Reading.{read, read_all, levels, to_end}
use Rattle.bus_value.proofs.Containers.{onward}
use Rattle.bus_value.proofs.FieldParts.{fields_listed, fields_left, fields_fail, list_fails}
use Rattle.bus_value.proofs.fields.read_fields.Goals as goal

pub returns-in_err-place : goal.returns-in_err-place
returns-in_err-place c =
    let r = c.new-reader.result in
    let e = c.in_err-place.field-0.0 in
    let k = subst (λ (x : Reader). kept_in c.args.most x.order x.start (read_all x.order x.start (list_type ∷ []) c.args.bytes.now) ≡ Err e) c.new-reader.ensures
    (list_fails c.args.most r c.args.bytes.now e (ap (λ (x : Reader). x.depth) c.new-reader.ensures) (ap (λ (x : Reader). x.array) c.new-reader.ensures) c.in_err-place.ensures) in
    search (rules, k)

pub returns-in_err-fields : goal.returns-in_err-fields
returns-in_err-fields c =
    let r = c.new-reader.result in
    let a = c.in_ok-place.place in
    let bytes = c.args.bytes.now in
    let e = c.in_err-fields.field-0.0 in
    let k = onward (kept_by c.args.most a.reader.order (a.reader.start + a.first) (to_end (read (levels a.reader.depth) a.reader.order a.reader.depth a.reader.array field_type) (a.reader.start + a.first) (drop a.first (take a.end bytes))))
    (kept_in c.args.most c.args.order c.args.start (read_all c.args.order c.args.start (list_type ∷ []) bytes)) e
    (λ h. subst (λ (x : Reader). kept_in c.args.most x.order x.start (read_all x.order x.start (list_type ∷ []) bytes) ≡ Err e) c.new-reader.ensures
    (fields_fail c.args.most r bytes a e (ap (λ (x : Reader). x.depth) c.new-reader.ensures) (ap (λ (x : Reader). x.array) c.new-reader.ensures) c.in_ok-place.ensures h)) c.in_err-fields.ensures in
    search (rules, k)

pub returns-then-place-bytes : goal.returns-then-place-bytes
returns-then-place-bytes c =
    let r = c.new-reader.result in
    let a = c.in_ok-place.place in
    let bytes = c.args.bytes.now in
    let left = fields_left c.args.most r bytes a c.in_ok-fields.fields (ap (λ (x : Reader). x.depth) c.new-reader.ensures) (ap (λ (x : Reader). x.array) c.new-reader.ensures) c.in_ok-place.ensures c.in_ok-fields.ensures c.if-place-bytes.true
    ∙ ap (λ (n : ℕ). Err (BadLength n)) (sym c.reported.ensures) in
    inr (subst (λ (x : Reader). kept_in c.args.most x.order x.start (read_all x.order x.start (list_type ∷ []) bytes) ≡ Err (BadLength c.reported.result)) c.new-reader.ensures left)

pub returns : goal.returns
returns c =
    let r = c.new-reader.result in
    let a = c.in_ok-place.place in
    let bytes = c.args.bytes.now in
    subst (λ (x : Reader). kept_in c.args.most x.order x.start (read_all x.order x.start (list_type ∷ []) bytes) ≡ Ok c.in_ok-fields.fields) c.new-reader.ensures
    (fields_listed c.args.most r bytes a c.in_ok-fields.fields (ap (λ (x : Reader). x.depth) c.new-reader.ensures) (ap (λ (x : Reader). x.array) c.new-reader.ensures) c.in_ok-place.ensures c.in_ok-fields.ensures c.if-place-bytes.false)
