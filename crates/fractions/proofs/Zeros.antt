-- The value of zeros.
use Rattle.std.proofs.Common.{◌≡◌, ℕ, List, length, replicate, ℤ, pos, ap, ◌∙◌}
use Rattle.std.proofs.lemmas.List.{length-replicate}
use Rattle.whole.specs.Lists.{at}
use Rattle.whole.proofs.Lists.{zeros-at}

pub zero_at : (size : ℕ) (us : List ℤ) → us ≡ replicate size (pos 0) → (c : ℕ) → at us c ≡ pos 0
zero_at size us e c = ap (λ (l : List ℤ). at l c) e ∙ zeros-at size c

pub zero_length : (size : ℕ) (us : List ℤ) → us ≡ replicate size (pos 0) → length us ≡ size
zero_length size us e = ap length e ∙ length-replicate size (pos 0)
