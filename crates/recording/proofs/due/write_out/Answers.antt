use Rattle.std.proofs.Common.{subst, ap, ◌∙◌, ◌++◌, ◌≡◌, List, ℕ}
use Rattle.login_edge.specs.Texts.{Gains, GainsFront}
use Rattle.recording.specs.Print.{out_line}
use Rattle.recording.specs.inner.Pieces.{hex_end}
use Rattle.recording.proofs.HexPieces.{out_line-parts}
use Rattle.recording.proofs.due.write_out.Goals as goal

pub returns-in-Done-clause-wrote : goal.returns-in-Done-clause-wrote
returns-in-Done-clause-wrote g c =
    let whole : c.in-Ok.text.items ++ hex_end c.args.bytes.now ≡ out_line c.args.who c.args.bytes.now
    = ap (λ (t : List ℕ). t ++ hex_end c.args.bytes.now) c.in-Ok.ensures.items ∙ out_line-parts c.args.who c.args.bytes.now in
    subst (λ (t : List ℕ). Gains (g.K.Sink.held c.args.sink.now) (g.K.Sink.held c.write_in_hex.new.sink) t) whole c.in-Done.ensures.gives

pub returns-clause-front : goal.returns-clause-front
returns-clause-front g c e =
    let whole : c.in-Ok.text.items ++ hex_end c.args.bytes.now ≡ out_line c.args.who c.args.bytes.now
    = ap (λ (t : List ℕ). t ++ hex_end c.args.bytes.now) c.in-Ok.ensures.items ∙ out_line-parts c.args.who c.args.bytes.now in
    subst (λ (t : List ℕ). GainsFront (g.K.Sink.held c.args.sink.now) (g.K.Sink.held c.write_in_hex.new.sink) t) whole c.in-Fault.ensures.gives
