-- Points: two numbers joined by a comma.
use Rattle.std.specs.Prelude.{◌≡◌, ℕ, zero, suc, Bool, true, List, [], ◌∷◌, ◌++◌, ℤ, Some, None, Ok, Err, Option, Result, ◌≢◌, refl}
use Rattle.std.proofs.Common.{sym, ap, subst, ◌∙◌, ⊎_elim, append_assoc, arith}
use Rattle.std.proofs.lemmas.List.{append_cancel_left}
use Rattle.std.specs.Borrow.{Bor}
use Rattle.kinds.specs.declared.length.Length.{Length}
use Rattle.kinds.specs.declared.point.Point.{Point}
use Rattle.words.specs.declared.fault.Fault.{Fault}
use Rattle.words.specs.declared.word.Word.{Word}
use Rattle.words.specs.declared.word.Word.TheVariants as w
use Rattle.words.specs.Lines.{Lacks}
use Rattle.words.specs.Numbers.{Number, Exactly}
use Rattle.words.specs.Sorts.{number, sort, sort_of, text_of}
use Rattle.words.specs.Words.{pieces}
use Rattle.words.proofs.Appends.{refuses_map}
use Rattle.words.proofs.Cuts.{first_out}
use Rattle.forms.specs.Forms.{Forms, Visible, Says, PutWord}
use Rattle.forms.specs.Laws.{number_bytes, number_laws}
use Rattle.forms.specs.Leads.{number_sort}
use Rattle.forms.specs.Values.{LengthForm, PointForm}

pub length_laws : Forms LengthForm
length_laws = record {
  one_value = λ w u v p q. let e = number_laws.one_value w u.x v.x p q in (λ i. record { x = e i });
  one_word = λ w x v p q. number_laws.one_word w x v.x p q;
  visible = λ w v p. number_laws.visible w v.x p;
}

pub put_length : (r : Result (Unit {0}) Fault) (v : Length) (m : ℤ) (before after : List ℕ) → PutWord Number m before after r → m ≡ v.x → PutWord LengthForm v before after r
put_length (Ok x) v m before after h e = (h.0, h.1, subst (Number h.0) e h.2)
put_length (Err x) v m before after h e = refuses_map x _ _ (λ none w f. none w (subst (Number w) (sym e) f)) h

number_lacks : (w : List ℕ) (z : ℤ) → Number w z → Lacks 44 w
number_lacks w z p k l e = ⊎_elim (λ d. omega arith) (λ d. omega (arith, d.0)) (number_bytes w z p k l)

-- at its first comma a word is cut in one way
cut_once : (a b c d : List ℕ) → Lacks 44 a → Lacks 44 c → a ++ 44 ∷ b ≡ c ++ 44 ∷ d → (a ≡ c) × (b ≡ d)
cut_once a b c d la lc e =
    let all = sym (first_out 44 a b la) ∙ ap (pieces 44) e ∙ first_out 44 c d lc in
    let fronts : a ≡ c = cc in
    let backs = append_cancel_left c (44 ∷ b) (44 ∷ d) (ap (λ l. l ++ 44 ∷ b) (sym fronts) ∙ e) in
    (fronts, cc)

pub parts : (w a b : List ℕ) (p : Point) → w ≡ a ++ 44 ∷ b → Lacks 44 a → (f : PointForm w p) → (f.first ≡ a) × (f.second ≡ b)
parts w a b p e l f = cut_once f.first f.second a b (number_lacks _ _ f.left) l (sym f.comma ∙ e)

visible_append : (a b : List ℕ) → Visible a → Visible b → Visible (a ++ b)
visible_append [] b va vb k l = vb k l
visible_append (x ∷ a) b va vb zero l = va zero (omega arith)
visible_append (x ∷ a) b va vb (suc k) l = visible_append a b (λ j h. va (suc j) (omega arith)) vb k (omega arith)

visible_comma : (b : List ℕ) → Visible b → Visible (44 ∷ b)
visible_comma b v zero l = omega arith
visible_comma b v (suc k) l = v k (omega arith)

point_once : (w : List ℕ) (p q : Point) → PointForm w p → PointForm w q → p ≡ q
point_once w p q f g =
    let same = parts w g.first g.second p g.comma (number_lacks _ _ g.left) f in
    let ex = number_laws.one_value g.first p.x q.x (subst (λ v. Number v p.x) same.0 f.left) g.left in
    let ey = number_laws.one_value g.second p.y q.y (subst (λ v. Number v p.y) same.1 f.right) g.right in
    (λ i. record { x = ex i; y = ey i })

point_word : (w x : List ℕ) (p : Point) → PointForm w p → PointForm x p → w ≡ x
point_word w x p f g =
    let a = number_laws.one_word f.first g.first p.x f.left g.left in
    let b = number_laws.one_word f.second g.second p.y f.right g.right in
    f.comma ∙ (λ i. a i ++ 44 ∷ b i) ∙ sym g.comma

point_visible : (w : List ℕ) (p : Point) → PointForm w p → Visible w
point_visible w p f =
    subst Visible (sym f.comma) (visible_append f.first (44 ∷ f.second) (number_laws.visible _ _ f.left) (visible_comma f.second (number_laws.visible _ _ f.right)))

pub point_laws : Forms PointForm
point_laws = record { one_value = point_once; one_word = point_word; visible = point_visible }

-- a point's first byte is its first number's
point_sort : (first : Bool) (w : List ℕ) (p : Point) → PointForm w p → sort_of first w ≡ number
point_sort first w p f = go f.first (number_sort first f.first p.x f.left) f.comma
  where
    go : (a : List ℕ) → sort_of first a ≡ number → w ≡ a ++ 44 ∷ f.second → sort_of first w ≡ number
    go [] h e = absurd (let z : ◌≡◌ {A = ℕ} 0 1 = cc in omega arith)
    go (b ∷ a) h e = ap (sort_of first) e ∙ h

number_says : (bytes : Bor (List ℕ)) (r : Option Point) → Exactly PointForm bytes.now r → Exactly (Says PointForm) (w.Number bytes) r
number_says bytes (Some v) h = record { first = true; sorted = sym (point_sort true bytes.now v h); says = h }
number_says bytes None h = λ v s. h v s.says

pub point_by_number : (word : Word) (bytes : Bor (List ℕ)) (r : Option Point) → word ≡ w.Number bytes → Exactly PointForm bytes.now r → Exactly (Says PointForm) word r
point_by_number word bytes r e h = let P : Word → Type 0 = λ x. Exactly (Says PointForm) x r in subst P (sym e) (number_says bytes r h)

-- a word of any other sort writes no point
pub no_point : (word : Word) → ((bytes : Bor (List ℕ)) → word ≢ w.Number bytes) → (p : Point) → Says PointForm word p → ⊥
no_point word n p s = other word n (s.sorted ∙ point_sort s.first (text_of word) p s.says)
  where
    other : (word : Word) → ((bytes : Bor (List ℕ)) → word ≢ w.Number bytes) → sort word ≢ number
    other (w.Verb b) n e = let z : ◌≡◌ {A = ℕ} 0 1 = cc in omega arith
    other (w.Name b) n e = let z : ◌≡◌ {A = ℕ} 0 1 = cc in omega arith
    other (w.Number b) n e = n b refl
    other (w.Cell b) n e = let z : ◌≡◌ {A = ℕ} 0 1 = cc in omega arith

pub put_point : (r : Result (Unit {0}) Fault) (p : Point) (m n : ℤ) (t₀ t₁ t₂ t₃ : List ℕ) (first : List ℕ) (d : ℕ) → t₁ ≡ t₀ ++ first → Number first m → t₂ ≡ t₁ ++ d ∷ [] → d ≡ 44 → PutWord Number n t₂ t₃ r → m ≡ p.x → n ≡ p.y → PutWord PointForm p t₀ t₃ r
put_point (Ok x) p m n t₀ t₁ t₂ t₃ first d a f b is h ex ey = (
  first ++ 44 ∷ h.0,
  h.1 ∙ ap (λ t. t ++ h.0) (b ∙ (λ i. a i ++ is i ∷ [])) ∙ append_assoc (t₀ ++ first) (44 ∷ []) h.0 ∙ append_assoc t₀ first (44 ∷ h.0),
  record { first = first; second = h.0; comma = refl; left = subst (Number first) ex f; right = subst (Number h.0) ey h.2 },
)
put_point (Err e) p m n t₀ t₁ t₂ t₃ first d a f b is h ex ey = refuses_map e _ _ (λ none w q. none q.second (subst (Number q.second) (sym ey) q.right)) h
