-- What further bytes of a link that has begun leave, and what they bring.
use Rattle.std.proofs.Common.{◌≡◌, ℕ, Bool, true, false, List, [], ◌++◌, refl, ap, sym, ◌∙◌}
use Rattle.std.proofs.lemmas.List.{map-append}
use Rattle.login_base.specs.declared.ids.ConnId.{ConnId}
use Rattle.login_base.specs.declared.ids.Uid.{Uid}
use Rattle.login_model.specs.declared.event.Request.{Request}
use Rattle.bus_auth.specs.Greeting.{Greeting, State, WaitingForNul, Talking, Begun, Ended, greet}
use Rattle.bus_message.proofs.Cuts.{cut-append, onward, resume}
use Rattle.bus_message.proofs.Pieces.{whole_cut}
use Rattle.bus_message.specs.Cutting.{Cutting, cut, cut_from}
use Rattle.bus_message.specs.declared.message.Message.{Message}
use Rattle.login_office.proofs.Begun.{begun_on}
use Rattle.login_office.specs.Links.{behind, calls, has_begun, is_begun, replies}
use Rattle.wire_calls.specs.Reading.{request_of, requests_of}

-- before BEGIN there are no calls
pub unbegun-calls : (c : ConnId) (u : Uid) (guid text : List ℕ) → is_begun u guid text ≡ false → calls c u guid text ≡ []
unfolding cut cut_from
unbegun-calls c u guid text b = by (greet u guid text).state refl b
  where
    by : (s : State) → (greet u guid text).state ≡ s → has_begun s ≡ false → requests_of c (cut (behind (greet u guid text).state)).messages ≡ []
    by WaitingForNul is e = ap (λ (s : State). requests_of c (cut (behind s)).messages) is
    by (Talking talk l) is e = ap (λ (s : State). requests_of c (cut (behind s)).messages) is
    by (Ended ending) is e = ap (λ (s : State). requests_of c (cut (behind s)).messages) is
    by (Begun rest) is e = absurd (let z : true ≡ false = e in cc)

pub cut-more : (text more : List ℕ) → (cut (text ++ more)).messages ≡ (cut text).messages ++ (onward (cut text).malformed (cut text) more).messages
cut-more text more =
    ap (λ (x : Cutting). x.messages) (whole_cut (text ++ more) ∙ cut-append 0 text more ∙ sym (ap (λ (x : Cutting). resume x more) (whole_cut text)))

-- what a link that has begun is, with more bytes
pub record BegunOn (c : ConnId) (u : Uid) (guid text more : List ℕ) : Type 0 where
  pub begun : is_begun u guid (text ++ more) ≡ true
  pub replies : replies u guid (text ++ more) ≡ replies u guid text
  pub calls : (rs : List Request) × (calls c u guid (text ++ more) ≡ calls c u guid text ++ rs)

pub begun-on : (c : ConnId) (u : Uid) (guid text more : List ℕ) → is_begun u guid text ≡ true → BegunOn c u guid text more
begun-on c u guid text more b = by (greet u guid text).state refl b
  where
    by : (s : State) → (greet u guid text).state ≡ s → has_begun s ≡ true → BegunOn c u guid text more
    by WaitingForNul is e = absurd (let z : false ≡ true = e in cc)
    by (Talking talk l) is e = absurd (let z : false ≡ true = e in cc)
    by (Ended ending) is e = absurd (let z : false ≡ true = e in cc)
    by (Begun rest) is e =
        let on = begun_on u guid text more rest is in
        let after : List Message = (onward (cut rest).malformed (cut rest) more).messages in record {
          begun = ap (λ (g : Greeting). has_begun g.state) on;
          replies = ap (λ (g : Greeting). g.replies) on;
          calls = (
            requests_of c after,
            ap (λ (g : Greeting). requests_of c (cut (behind g.state)).messages) on
                ∙ (ap (λ (ms : List Message). requests_of c ms) (cut-more rest more)
                ∙ (map-append (request_of c) (cut rest).messages after
                ∙ ap (λ (s : State). requests_of c (cut (behind s)).messages ++ requests_of c after) (sym is))),
          );
        }
