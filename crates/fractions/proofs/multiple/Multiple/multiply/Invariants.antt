use Rattle.std.proofs.Common.{◌≡◌, ℕ, ◌<◌, false, List, [], map, length, get_or, ℤ}
use Rattle.whole.specs.Lists.{tab}
use Rattle.rules.specs.Values.{written}
use Rattle.fractions.specs.Multiple.{strays, multiplied}
use Rattle.fractions.proofs.multiple.Multiple.multiply.Given as goal

abbrev pub invariant-loop-i : goal.invariant-loop-i
invariant-loop-i g l =
    let f = g.K.Kind.coords in
    let size = g.K.Kind.size in
    let us = map f l.initial.sums in
    let all : List (List ℤ) = tab (length l.numbers) (λ k. multiplied size l.self.l (get_or l.numbers k 0) (get_or us k [])) in
    (map f l.sums ≡ written l.i all us) × ((k : ℕ) → k < l.i → strays size l.self.l (get_or l.numbers k 0) (get_or us k []) ≡ false)
