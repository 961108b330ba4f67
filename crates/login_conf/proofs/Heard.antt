-- The lines of a text, heard one by one.
use Rattle.std.proofs.Common.{◌≡◌, ℕ, ◌+◌, eqb, List, [], ◌∷◌, ◌++◌, Option, Some, None, refl, ap, sym, ◌∙◌, append_assoc, append-nil}
use Rattle.std.specs.List.{slice_split}
use Rattle.login_model.specs.declared.conf.Conf.{Conf}
use Rattle.login_conf.specs.declared.diagnostic.Diagnostic.{Diagnostic}
use Rattle.login_model.specs.Conf.{default_conf}
use Rattle.login_conf.specs.declared.saying.Section.{Section}
use Rattle.login_conf.specs.declared.saying.Section.TheVariants.{Before}
use Rattle.login_conf.specs.declared.saying.Saying.{Saying}
use Rattle.login_conf.specs.declared.saying.Saying.TheVariants.{Nothing}
use Rattle.login_conf.specs.declared.reader.Reader.{Reader}
use Rattle.login_conf.specs.Text.{continued, to_last}
use Rattle.login_conf.specs.Lines.{Line, going_on, onto_lines, joined, lines_of}
use Rattle.login_conf.specs.Sayings.{saying}
use Rattle.login_conf.specs.Reading.{Said, sayings, section_behind, conf_behind, conf_from, complaints, complaints_of, conf_of, diagnostics_of}
use Rattle.login_conf.specs.inner.UnderWay.{said_behind, IsRead, Hears, Grows, Begins, Leads, open_saying}

-- a line that goes on in one that goes on
going_on-twice : (n m : ℕ) (a b : List ℕ) (lines : List Line) → going_on n a (going_on m b lines) ≡ going_on n (a ++ b) lines
going_on-twice n m a b [] = refl
going_on-twice n m a b (next ∷ more) = let line : List ℕ → List Line = λ t. record { number = n; text = t } ∷ more in ap line (sym (append_assoc a b next.text))

-- a line that goes on
goes_on : (first number : ℕ) (front line rest : List ℕ) (lines : List (List ℕ)) → continued line ≡ Some rest
    → going_on first front (joined number (line ∷ lines)) ≡ going_on first (front ++ (rest ++ 32 ∷ [])) (joined (number + 1) lines)
goes_on first number front line rest lines e =
    ap (λ (o : Option (List ℕ)). going_on first front (onto_lines number line o (joined (number + 1) lines))) e
    ∙ going_on-twice first number front (rest ++ 32 ∷ []) (joined (number + 1) lines)

-- a line that ends
ends : (first number : ℕ) (front line : List ℕ) (lines : List (List ℕ)) → continued line ≡ None
    → going_on first front (joined number (line ∷ lines)) ≡ record { number = first; text = front ++ line } ∷ joined (number + 1) lines
ends first number front line lines e = ap (λ (o : Option (List ℕ)). going_on first front (onto_lines number line o (joined (number + 1) lines))) e

-- an empty line says nothing
empty_line : (section : Section) → saying section [] ≡ Nothing
unfolding saying to_last
empty_line section = refl

-- a line of which nothing is known is the next one, or an empty line behind the last
opened : (number : ℕ) (line : List ℕ) (lines : List (List ℕ)) → going_on number [] (joined number (line ∷ lines)) ≡ joined number (line ∷ lines)
opened number line lines = by (continued line)
  where
    by : (o : Option (List ℕ)) → going_on number [] (onto_lines number line o (joined (number + 1) lines)) ≡ onto_lines number line o (joined (number + 1) lines)
    by (Some rest) = going_on-twice number number [] (rest ++ 32 ∷ []) (joined (number + 1) lines)
    by None = refl

same_conf : (conf : Conf) (section : Section) (number : ℕ) (lines : List (List ℕ))
    → conf_from conf (sayings section (going_on number [] (joined number lines))) ≡ conf_from conf (sayings section (joined number lines))
same_conf conf section number [] = rw (empty_line section) refl
same_conf conf section number (line ∷ lines) = ap (λ (l : List Line). conf_from conf (sayings section l)) (opened number line lines)

same_complaints : (section : Section) (number : ℕ) (lines : List (List ℕ))
    → complaints_of (sayings section (going_on number [] (joined number lines))) ≡ complaints_of (sayings section (joined number lines))
same_complaints section number [] = rw (empty_line section) refl
same_complaints section number (line ∷ lines) = ap (λ (l : List Line). complaints_of (sayings section l)) (opened number line lines)

-- a line that goes on
pub read_on : (old one two : Reader) (line front : List ℕ) → Grows (record old { number = old.number + 1 }) one front → Grows one two (32 ∷ [])
    → Some front ≡ continued line → Leads old two line
read_on old one two line front first second e lines whole wrong read =
    let number : two.number ≡ old.number + 1 = second.number ∙ first.number in
    let begun : two.first ≡ old.first = second.first ∙ first.first in
    let section : two.section ≡ old.section = second.section ∙ first.section in
    let text : two.line.items ≡ old.line.items ++ (front ++ 32 ∷ [])
    = second.line ∙ (ap (λ (t : List ℕ). t ++ 32 ∷ []) first.line ∙ append_assoc old.line.items front (32 ∷ [])) in
    let said : said_behind two lines ≡ said_behind old (line ∷ lines)
    = rw (section, begun, number, text) (ap (sayings old.section) (sym (goes_on old.first old.number old.line.items line front lines (sym e)))) in
    record {
      conf = rw (said, second.conf, first.conf) read.conf;
      diagnostics = rw (said, second.diagnostics, first.diagnostics) read.diagnostics;
    }

-- a line that ends
pub read_whole : (old heard closed new : Reader) (line : List ℕ) → Grows (record old { number = old.number + 1 }) heard line
    → Hears heard closed (open_saying heard) → Begins closed new → None ≡ continued line → Leads old new line
read_whole old heard closed new line grows hears begins e lines whole wrong read =
    let said : Saying = saying old.section (old.line.items ++ line) in
    let it : open_saying heard ≡ said
    = ap (λ (s : Section). saying s heard.line.items) grows.section ∙ ap (saying old.section) grows.line in
    let before : said_behind old (line ∷ lines) ≡ record { number = old.first; saying = said } ∷ sayings (section_behind old.section said) (joined (old.number + 1) lines)
    = ap (sayings old.section) (ends old.first old.number old.line.items line lines (sym e)) in
    let section : new.section ≡ section_behind old.section said
    = begins.section ∙ (hears.section ∙ (ap (section_behind heard.section) it ∙ ap (λ (s : Section). section_behind s said) grows.section)) in
    let conf : new.conf ≡ conf_behind old.conf said
    = begins.conf ∙ (hears.conf ∙ (ap (conf_behind heard.conf) it ∙ ap (λ (c : Conf). conf_behind c said) grows.conf)) in
    let diagnostics : new.diagnostics ≡ old.diagnostics ++ complaints old.first said
    = begins.diagnostics ∙ (hears.diagnostics ∙ (ap (λ (s : Saying). heard.diagnostics ++ complaints heard.first s) it
    ∙ (ap (λ (d : List Diagnostic). d ++ complaints heard.first said) grows.diagnostics
    ∙ ap (λ (n : ℕ). old.diagnostics ++ complaints n said) grows.first))) in
    let number : new.number ≡ old.number + 1 = begins.number ∙ (hears.number ∙ grows.number) in
    let first : new.first ≡ old.number + 1 = begins.first ∙ (hears.number ∙ grows.number) in
    let later : said_behind new lines ≡ sayings (section_behind old.section said) (going_on (old.number + 1) [] (joined (old.number + 1) lines))
    = rw (section, first, number, begins.line) refl in
    record {
      conf = rw (later, conf) (same_conf (conf_behind old.conf said) (section_behind old.section said) (old.number + 1) lines
          ∙ (sym (ap (conf_from old.conf) before) ∙ read.conf));
      diagnostics = rw (later, diagnostics) (append_assoc old.diagnostics (complaints old.first said) _
          ∙ (ap (λ (d : List Diagnostic). old.diagnostics ++ (complaints old.first said ++ d)) (same_complaints (section_behind old.section said) (old.number + 1) lines)
          ∙ (sym (ap (λ (s : List Said). old.diagnostics ++ complaints_of s) before) ∙ read.diagnostics)));
    }

-- the end of a text
pub read_all : (old new : Reader) (whole : Conf) (wrong : List Diagnostic) → Hears old new (open_saying old) → IsRead old [] whole wrong
    → (new.conf ≡ whole) × (new.diagnostics ≡ wrong)
read_all old new whole wrong hears read = (
  hears.conf ∙ read.conf,
  hears.diagnostics ∙ (ap (λ (d : List Diagnostic). old.diagnostics ++ d) (sym (append-nil (complaints old.first (open_saying old)))) ∙ read.diagnostics),
)

-- the beginning of one
pub read_none : (new : Reader) (text : List ℕ) → new.section ≡ Before → new.conf ≡ default_conf → new.diagnostics ≡ [] → new.first ≡ 1
    → new.line.items ≡ [] → new.number ≡ 1 → IsRead new (slice_split (λ b. eqb b 10) text) (conf_of text) (diagnostics_of text)
unfolding conf_of diagnostics_of
read_none new text section conf diagnostics first line number =
    let said : said_behind new (slice_split (λ b. eqb b 10) text) ≡ sayings Before (going_on 1 [] (lines_of text))
    = rw (section, first, number, line) refl in
    record {
      conf = rw (said, conf) (same_conf default_conf Before 1 (slice_split (λ b. eqb b 10) text));
      diagnostics = rw (said, diagnostics) (same_complaints Before 1 (slice_split (λ b. eqb b 10) text));
    }
