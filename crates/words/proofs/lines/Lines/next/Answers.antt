use Rattle.std.proofs.Common.{◌≡◌, ◌∷◌, take, drop, sym, ◌∙◌, false-eqb}
use Rattle.words.specs.Lines.{lines}
use Rattle.words.proofs.Cards.{line_inner, line_last}
use Rattle.words.proofs.lines.Lines.next.Goals as goal
use Rattle.words.proofs.lines.Lines.next.Goals.{in-Some, in-None}

pub returns : goal.returns
returns c =
    let card = c.args.self.now.rest.now in
    let size = c.match-place_of.size in
    let cut : lines card ≡ take size card ∷ lines (drop size card) = elim c.match-place_of.branch [
      | in-Some w ↦ rw w.size-is (line_inner card w.in-Some.end (cc))
      | in-None w ↦ rw w.size-is (line_last card (false-eqb _ 0 c.if-is_empty.ensures) (cc))
    ] in
    cut ∙ (λ i. sym c.split_at.ensures.front i ∷ lines (sym c.split_at.ensures.back i))
