-- The relations that count, by their numbers, and their residuals.
use Rattle.std.proofs.Common.{◌≡◌, ℕ, ◌<◌, List, [], length, get_or, ℤ, pos, ◌-ℤ◌, ◌*ℤ◌, sym, ap, ◌∙◌, subst, ap₂, get_or-take}
use Rattle.std.proofs.lemmas.List.{length-map, get_or-map}
use Rattle.records.specs.declared.relation.Relation.{Relation}
use Rattle.records.specs.declared.role.Role.{Role}
use Rattle.whole.specs.Lists.{tab, at, coord}
use Rattle.whole.specs.Sums.{sum_below}
use Rattle.whole.proofs.Lists.{tab-length, tab_ext, get_or-tab}
use Rattle.whole.proofs.Sums.{sum_ext}
use Rattle.rules.specs.Values.{Coords}
use Rattle.rules.specs.Sheets.{Bond, bond, no_bond, relation_at}
use Rattle.rules.specs.Gripping.{role, coef}
use Rattle.rules.specs.Pulling.{if_held, if_moving, residuals}
use Rattle.residuals.specs.Steps.{residual_at}
use Rattle.residuals.specs.Rows.{chosen}

module _ (n : ℕ) (rs : List Relation) (qs : List Coords) (rows : List ℕ) where
  pub many-chosen : length (chosen n rs qs rows) ≡ length rows
  many-chosen = length-map rows (λ j. bond n (relation_at rs j).coefficients (get_or qs j []))

  pub picked : (i : ℕ) → i < length rows → get_or (chosen n rs qs rows) i no_bond ≡ bond n (relation_at rs (get_or rows i 0)).coefficients (get_or qs (get_or rows i 0) [])
  picked i l = get_or-map (λ j. bond n (relation_at rs j).coefficients (get_or qs j [])) rows i 0 no_bond l

  pub picked_coef : (i s : ℕ) → i < length rows → s < n → coef (chosen n rs qs rows) i s ≡ at (relation_at rs (get_or rows i 0)).coefficients s
  picked_coef i s l h = ap (λ (b : Bond). at b.coefs s) (picked i l) ∙ get_or-take n (relation_at rs (get_or rows i 0)).coefficients s (pos 0) h

  module _ (size : ℕ) (roles : List Role) (d : ℤ) (values wishes : List Coords) where
    pub residual_rows : length (residuals size n roles (chosen n rs qs rows) d values wishes) ≡ length rows
    residual_rows = tab-length (length (chosen n rs qs rows)) _ ∙ many-chosen

    pub residual_row : (i : ℕ) → i < length rows
        → get_or (residuals size n roles (chosen n rs qs rows) d values wishes) i [] ≡ tab size (residual_at n roles d values wishes (relation_at rs (get_or rows i 0)).coefficients (get_or qs (get_or rows i 0) []))
    residual_row i l =
        get_or-tab (length (chosen n rs qs rows)) _ [] i (subst (λ (m : ℕ). i < m) (sym many-chosen) l)
        ∙ tab_ext size _ _ (λ c h. ap (λ (x : ℤ). d *ℤ x -ℤ d *ℤ sum_below n (λ s. if_moving (role roles s) (coef (chosen n rs qs rows) i s *ℤ coord wishes s c)) -ℤ sum_below n (λ s. if_held (role roles s) (coef (chosen n rs qs rows) i s *ℤ coord values s c)))
        (ap (λ (b : Bond). at b.constant c) (picked i l))
        ∙ ap₂ (λ (x y : ℤ). d *ℤ at (get_or qs (get_or rows i 0) []) c -ℤ d *ℤ x -ℤ y)
        (sum_ext n (λ s b. ap (λ (z : ℤ). if_moving (role roles s) (z *ℤ coord wishes s c)) (picked_coef i s l b)))
        (sum_ext n (λ s b. ap (λ (z : ℤ). if_held (role roles s) (z *ℤ coord values s c)) (picked_coef i s l b))))
