-- A placing whose denominator and numerators are all multiplied by one factor above 0 is the same placing.
use Rattle.std.proofs.Common.{◌≡◌, ℕ, List, [], ◌∷◌, ℤ, pos, ◌-ℤ◌, ◌*ℤ◌, ◌<ℤ◌, sym, ap, ◌∙◌, subst, inr}
use Rattle.whole.proofs.Integers.{*->0, cancel-*, cancel-<}
use Rattle.whole.proofs.Ring.{v, ◌⊖◌, ◌⊗◌, ring}
use Rattle.whole.proofs.Sums.{sum_ext, sum_scale}
use Rattle.linear.specs.Products.{InnerProduct}
use Rattle.linear.specs.Gram.{dot}
use Rattle.linear.specs.Placings.{Meets, Agrees, Same, cost, Scaled}
use Rattle.linear.specs.Theorems.{Lowest}
use Rattle.linear.proofs.Products.{total_scale}

module _ (size n : ℕ) (h : ℤ) (h>0 : pos 0 <ℤ h) (e f : ℤ) (y z : ℕ → ℕ → ℤ) (S : Scaled size n h e y f z) where
  pub meets_back : (m : ℕ) (R Q : ℕ → ℕ → ℤ) → Meets size n m R Q f z → Meets size n m R Q e y
  meets_back m R Q M i l c b = cancel-* h (dot n (R i) (λ s. y s c)) (e *ℤ Q i c) h>0
      (sym (sum_scale n h (λ s. R i s *ℤ y s c))
      ∙ sum_ext n (λ s u. ring (h ∷ R i s ∷ y s c ∷ []) (v 0 ⊗ (v 1 ⊗ v 2)) (v 1 ⊗ (v 0 ⊗ v 2)) tt ∙ ap (λ x. R i s *ℤ x) (S.1 s u c b))
      ∙ M i l c b ∙ ap (λ x. x *ℤ Q i c) (sym S.0)
      ∙ ring (h ∷ e ∷ Q i c ∷ []) (v 0 ⊗ v 1 ⊗ v 2) (v 0 ⊗ (v 1 ⊗ v 2)) tt)

  pub agrees_back : (w : ℕ → ℤ) (d : ℤ) (base : ℕ → ℕ → ℤ) → Agrees size n w d base f z → Agrees size n w d base e y
  agrees_back w d base A s l q c b = cancel-* h (d *ℤ y s c) (e *ℤ base s c) h>0
      (ring (h ∷ d ∷ y s c ∷ []) (v 0 ⊗ (v 1 ⊗ v 2)) (v 1 ⊗ (v 0 ⊗ v 2)) tt
      ∙ ap (λ x. d *ℤ x) (S.1 s l c b) ∙ A s l q c b ∙ ap (λ x. x *ℤ base s c) (sym S.0)
      ∙ ring (h ∷ e ∷ base s c ∷ []) (v 0 ⊗ v 1 ⊗ v 2) (v 0 ⊗ (v 1 ⊗ v 2)) tt)

  pub same_back : (g : ℤ) (u : ℕ → ℕ → ℤ) → Same size n f z g u → Same size n e y g u
  same_back g u E s l c b = cancel-* h (g *ℤ y s c) (e *ℤ u s c) h>0
      (ring (h ∷ g ∷ y s c ∷ []) (v 0 ⊗ (v 1 ⊗ v 2)) (v 1 ⊗ (v 0 ⊗ v 2)) tt
      ∙ ap (λ x. g *ℤ x) (S.1 s l c b) ∙ E s l c b ∙ ap (λ x. x *ℤ u s c) (sym S.0)
      ∙ ring (h ∷ e ∷ u s c ∷ []) (v 0 ⊗ v 1 ⊗ v 2) (v 0 ⊗ (v 1 ⊗ v 2)) tt)

  module _ (inner : List ℤ → List ℤ → ℤ) (P : InnerProduct size inner) (w : ℕ → ℤ) (d : ℤ) (base : ℕ → ℕ → ℤ) where
    cost_is : cost size inner n w d base f z ≡ h *ℤ h *ℤ cost size inner n w d base e y
    cost_is = total_scale size inner P n w h (λ s c. d *ℤ z s c -ℤ f *ℤ base s c) (λ s c. d *ℤ y s c -ℤ e *ℤ base s c)
        (λ s l. inr (λ c b. (λ t. d *ℤ sym (S.1 s l c b) t -ℤ sym S.0 t *ℤ base s c)
        ∙ ring (h ∷ d ∷ y s c ∷ e ∷ base s c ∷ []) (v 1 ⊗ (v 0 ⊗ v 2) ⊖ v 0 ⊗ v 3 ⊗ v 4) (v 0 ⊗ (v 1 ⊗ v 2 ⊖ v 3 ⊗ v 4)) tt))

    pub nearer_back : (g : ℤ) (u : ℕ → ℕ → ℤ) → (g *ℤ g *ℤ cost size inner n w d base f z) <ℤ (f *ℤ f *ℤ cost size inner n w d base g u)
        → (g *ℤ g *ℤ cost size inner n w d base e y) <ℤ (e *ℤ e *ℤ cost size inner n w d base g u)
    nearer_back g u l = cancel-< (h *ℤ h) (g *ℤ g *ℤ mine) (e *ℤ e *ℤ theirs) (*->0 h h h>0 h>0)
        (subst (λ x. x <ℤ (h *ℤ h *ℤ (e *ℤ e *ℤ theirs))) left (subst (λ x. (g *ℤ g *ℤ cost size inner n w d base f z) <ℤ x) right l))
      where
        mine : ℤ
        mine = cost size inner n w d base e y

        theirs : ℤ
        theirs = cost size inner n w d base g u

        left : g *ℤ g *ℤ cost size inner n w d base f z ≡ h *ℤ h *ℤ (g *ℤ g *ℤ mine)
        left = ap (λ x. g *ℤ g *ℤ x) cost_is ∙ ring (h ∷ g ∷ mine ∷ []) (v 1 ⊗ v 1 ⊗ (v 0 ⊗ v 0 ⊗ v 2)) (v 0 ⊗ v 0 ⊗ (v 1 ⊗ v 1 ⊗ v 2)) tt

        right : f *ℤ f *ℤ cost size inner n w d base g u ≡ h *ℤ h *ℤ (e *ℤ e *ℤ theirs)
        right = ap (λ x. x *ℤ x *ℤ theirs) (sym S.0) ∙ ring (h ∷ e ∷ theirs ∷ []) (v 0 ⊗ v 1 ⊗ (v 0 ⊗ v 1) ⊗ v 2) (v 0 ⊗ v 0 ⊗ (v 1 ⊗ v 1 ⊗ v 2)) tt

pub lowest : Lowest
lowest size inner n m w share R Q d base h e f y z P h>0 S N = record {
  meets = meets_back size n h h>0 e f y z S m R Q N.meets;
  agrees = agrees_back size n h h>0 e f y z S share d base N.agrees;
  strictly = λ g u M A other. nearer_back size n h h>0 e f y z S inner P w d base g u (N.strictly g u M A (λ E. other (same_back size n h h>0 e f y z S g u E)));
}
