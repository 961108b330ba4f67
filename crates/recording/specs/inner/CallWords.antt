-- The words of a creation, in two parts.
use Rattle.std.specs.Prelude.{ℕ, List, [], ◌∷◌}
use Rattle.std.specs.Fmt.{decimal}
use Rattle.login_model.specs.declared.call.Creation.{Creation}
use Rattle.recording.specs.Text.{spell_text, spell_flag}

-- whose the session is and what it is for
abbrev pub purpose_words : Creation → List (List ℕ)
purpose_words x =
    decimal x.uid.0 ∷ decimal x.process ∷ spell_text x.service ∷ spell_text x.session_type ∷ spell_text x.class
    ∷ spell_text x.desktop ∷ []

-- where it is and where its user is
abbrev pub place_words : Creation → List (List ℕ)
place_words x =
    spell_text x.seat ∷ decimal x.vt ∷ spell_text x.tty ∷ spell_text x.display ∷ spell_flag x.remote
    ∷ spell_text x.remote_user ∷ spell_text x.remote_host ∷ []
