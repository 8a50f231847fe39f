-- A loose parameter's v(s) is at least 1.
use Rattle.std.proofs.Common.{◌≡◌, true, false, ℤ, pos, ◌≢◌, ◌≤ℤ◌, arith}
use borrow.Author.Differences.{ints}
use Rattle.std.proofs.lemmas.Bool.{not-false, false≢true}
use Rattle.records.specs.declared.role.Role.{Role}
use Rattle.records.specs.declared.role.Role.TheVariants.{Held, Pulled, Loose}
use Rattle.rules.specs.Gripping.{is_loose, is_weight, bad_weight, share}
use Rattle.rules.proofs.Roles.{weight_is}

above_none : (x : ℤ) → pos 0 ≤ℤ x → x ≢ pos 0 → pos 1 ≤ℤ x
above_none x h d = omega (arith, ints)

pub share_low : (r : Role) → bad_weight r ≡ false → is_loose r ≡ true → pos 1 ≤ℤ share r
share_low Held b e = absurd (false≢true e)
share_low Pulled b e = absurd (false≢true e)
share_low (Loose w) b e = let h = weight_is w (not-false (is_weight w) b) in above_none (share (Loose w)) h.share-≥0 h.some
