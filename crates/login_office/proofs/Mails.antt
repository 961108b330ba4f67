-- The mail of a link that is fetched by one journal after the other.
use Rattle.std.proofs.Common.{◌≡◌, ℕ, List, [], ◌++◌, length, drop, refl, ap, sym, ◌∙◌}
use Rattle.login_base.specs.declared.ids.ConnId.{ConnId}
use Rattle.login_model.specs.Legal.{IsUnused}
use Rattle.login_model.specs.declared.mark.Entry.{Entry}
use Rattle.wire_out.specs.Mail.{bytes_of, mail, wire}
use Rattle.wire_out.specs.Places.{Place, place_of}
use Rattle.wire_out.proofs.Growing.{wire_grows}
use Rattle.wire_out.proofs.Placing.{unused_mail}
use Rattle.login_office.specs.Hearing.{TellerState}
use Rattle.login_office.specs.Laws.{AllMail}
use Rattle.login_office.specs.Mailing.{Fetches, WasMailed, new, kept, fetched}

-- what is known of a teller whose mail was fetched
record IsMailed (place : Place) (J : List Entry) (given : List ℕ) : Type 0 where
  at : place ≡ place_of place.who J
  all : given ≡ wire place.who J

nothing : (c : ConnId) (J : List Entry) → IsUnused c J → IsMailed (place_of c J) J []
nothing c J h = record { at = refl; all = ap bytes_of (sym (unused_mail c J h)) }

more_mail : (old now : TellerState) (J more : List Entry) (given bytes : List ℕ) → IsMailed old.place J given → Fetches old (J ++ more) now bytes
    → IsMailed (place_of old.place.who (J ++ more)) (J ++ more) (given ++ bytes)
more_mail old now J more given bytes is f =
    let c = old.place.who in
    let count : old.place.fetched ≡ length (mail c J) = ap (λ (p : Place). p.fetched) is.at in
    let due : bytes ≡ bytes_of (drop (length (mail c J)) (mail c (J ++ more))) =
    f.due ∙ ap (λ (n : ℕ). bytes_of (drop n (mail c (J ++ more)))) count in
    record {
      at = refl;
      all = ap (λ (x : List ℕ). x ++ bytes) is.all ∙ ap (λ (x : List ℕ). wire c J ++ x) due ∙ sym (wire_grows c J more);
    }

was_mailed : (teller : TellerState) (J : List Entry) (given : List ℕ) → WasMailed teller J given → IsMailed teller.place J given
was_mailed teller J given (new c unused is) = rw is (nothing c J unused)
was_mailed teller J given (kept {old = old} w same) = rw same (was_mailed old J given w)
was_mailed teller J given (fetched {old = old} {J = before} {given = first} {bytes = bytes} more w f) =
    rw f.place (more_mail old teller before more first bytes (was_mailed old before first w) f)

pub all_mail : AllMail
all_mail teller J given w = (was_mailed teller J given w).all
