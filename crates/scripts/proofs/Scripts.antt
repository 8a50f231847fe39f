-- A script that is read line by line.
use Rattle.std.proofs.Common.{◌≡◌, ℕ, ◌<◌, Bool, true, false, is_some, List, [], ◌∷◌, ◌++◌, length, Some, None, Option, refl, sym, ap, subst, ◌∙◌, append_assoc, append-nil, arith}
use Rattle.std.proofs.lemmas.List.{map-append}
use Rattle.words.specs.declared.fault.Fault.{Fault}
use Rattle.words.specs.declared.fault.Fault.TheVariants.{Form}
use Rattle.words.specs.Faults.{Refuses}
use Rattle.forms.proofs.Rows.{each_push}
use Rattle.lines.specs.Lines.{Said, Spelled}
use Rattle.rules.specs.Values.{Coords}
use Rattle.rules.specs.Runs.{Call}
use Rattle.scripts.specs.Scripts.{asked, Asks, made, Scripted}

-- one line fewer is left when the first was taken
pub fewer : (before after : List (List ℕ)) (line : List ℕ) → before ≡ line ∷ after → length after < length before
fewer before after line e = let n = ap length e in omega arith

made-append : (xs ys : List (Option Call)) → made (xs ++ ys) ≡ made xs ++ made ys
made-append [] ys = refl
made-append (None ∷ xs) ys = made-append xs ys
made-append (Some call ∷ xs) ys = ap (λ zs. call ∷ zs) (made-append xs ys)

module _ {V : Type 0} (form : List ℕ → V → Type 0) (f : V → Coords) (count : ℕ) where
  -- of all lines those before `left` were read
  pub record Read (all left : List (List ℕ)) (calls : List Call) (marks : List Bool) : Type 0 where
    pub done : List (List ℕ)
    pub cut : all ≡ done ++ left
    pub script : Scripted form f count done calls marks

  module _ (all before after : List (List ℕ)) (line : List ℕ) (e : before ≡ line ∷ after) (calls : List Call) (marks : List Bool) (r : Read all before calls marks) where
    cut_more : all ≡ (r.done ++ line ∷ []) ++ after
    cut_more = r.cut ∙ ap (λ ls. r.done ++ ls) e ∙ sym (append_assoc r.done (line ∷ []) after)

    -- a line that spells no call
    pub form_refused : (more : List Bool) (e : Fault) → more ≡ marks ++ false ∷ [] → e ≡ Form → Refuses e ((s : Said V) → Spelled form count line s → ⊥) → Read all after calls more
    form_refused more e is same refuses = let none = subst (λ x. Refuses x ((s : Said V) → Spelled form count line s → ⊥)) same refuses in record {
      done = r.done ++ line ∷ [];
      cut = cut_more;
      script = record {
        asks = r.script.asks ++ None ∷ [];
        each = each_push (Asks form f count) r.done r.script.asks line None r.script.each none;
        calls_are = r.script.calls_are ∙ sym (append-nil (made r.script.asks)) ∙ sym (made-append r.script.asks (None ∷ []));
        marks_are = is ∙ ap (λ ms. ms ++ false ∷ []) r.script.marks_are ∙ sym (map-append is_some r.script.asks (None ∷ []));
      };
    }

    -- a line that spells a call
    pub call_read : (others : List Call) (more : List Bool) (call : Call) (s : Said V) → others ≡ calls ++ call ∷ [] → more ≡ marks ++ true ∷ [] → Spelled form count line s → call ≡ asked f s → Read all after others more
    call_read others more call s longer is spelled so = record {
      done = r.done ++ line ∷ [];
      cut = cut_more;
      script = record {
        asks = r.script.asks ++ Some call ∷ [];
        each = each_push (Asks form f count) r.done r.script.asks line (Some call) r.script.each (s, spelled, so);
        calls_are = longer ∙ ap (λ cs. cs ++ call ∷ []) r.script.calls_are ∙ sym (made-append r.script.asks (Some call ∷ []));
        marks_are = is ∙ ap (λ ms. ms ++ true ∷ []) r.script.marks_are ∙ sym (map-append is_some r.script.asks (Some call ∷ []));
      };
    }
