-- What the words behind a verb say, or cannot say.
use Rattle.std.proofs.Common.{◌≡◌, ℕ, ◌+◌, List, [], ◌∷◌, ◌++◌, length, ℤ, Some, None, sym, refl, ap, ◌∙◌, subst, append-nil, append_assoc, arith, length-append}
use Rattle.std.proofs.lemmas.List.{nil_from_length, length_push}
use Rattle.words.specs.declared.fault.Fault.{Fault}
use Rattle.words.specs.declared.fault.Fault.TheVariants as f
use Rattle.words.specs.Faults.{Refuses}
use Rattle.words.specs.Numbers.{Number}
use Rattle.cells.specs.declared.cell.Cell.{Cell}
use Rattle.cells.specs.declared.verb.Verb.{Verb}
use Rattle.cells.specs.declared.verb.Verb.TheVariants as v
use Rattle.cells.specs.Cells.{CellForm}
use Rattle.forms.specs.Rows.{OneRead, Row}
use Rattle.forms.proofs.Rows.{each-length}
use Rattle.lines.specs.Lines.{Said, binds, unbinds, grips, pulls, keeps, drops, verb_of, Values}

-- lists of one length that begin equal lists
pub append-parts : {X : Type 0} (a b c d : List X) → length a ≡ length c → a ++ b ≡ c ++ d → (a ≡ c) × (b ≡ d)
append-parts [] b [] d l e = (refl, e)
append-parts [] b (y ∷ c) d l e = absurd (omega arith)
append-parts (x ∷ a) b [] d l e = absurd (omega arith)
append-parts (x ∷ a) b (y ∷ c) d l e =
    let tails : a ++ b ≡ c ++ d = cc in
    let heads : x ≡ y = cc in
    let k : length a ≡ length c = omega arith in
    let more = append-parts a b c d k tails in
    ((λ i. heads i ∷ more.0 i), more.1)

pub refused : (e : Fault) (Q : Type 0) → Q → Refuses e Q
refused f.Form Q q = q
refused f.Memory Q q = tt

-- how many words a verb has behind it
abbrev words_behind : ℕ → Verb → ℕ
words_behind count v.Bind = count + 1
words_behind count v.Unbind = 1
words_behind count v.Grip = count
words_behind count v.Pull = count
words_behind count v.Keep = 0
words_behind count v.Drop = 0

-- what holds of all that a verb asks for, by the verb
module _ {V : Type 0} (P : Said V → Type 0) where
  pub as-bind : ((cs : List ℤ) (q : V) → P (binds cs q)) → (s : Said V) → verb_of s ≡ v.Bind → P s
  as-bind h (binds cs q) e = h cs q
  as-bind h (unbinds n) e = absurd (cc)
  as-bind h (grips cells) e = absurd (cc)
  as-bind h (pulls xs) e = absurd (cc)
  as-bind h keeps e = absurd (cc)
  as-bind h drops e = absurd (cc)

  pub as-unbind : ((n : ℤ) → P (unbinds n)) → (s : Said V) → verb_of s ≡ v.Unbind → P s
  as-unbind h (binds cs q) e = absurd (cc)
  as-unbind h (unbinds n) e = h n
  as-unbind h (grips cells) e = absurd (cc)
  as-unbind h (pulls xs) e = absurd (cc)
  as-unbind h keeps e = absurd (cc)
  as-unbind h drops e = absurd (cc)

  pub as-grip : ((cells : List Cell) → P (grips cells)) → (s : Said V) → verb_of s ≡ v.Grip → P s
  as-grip h (binds cs q) e = absurd (cc)
  as-grip h (unbinds n) e = absurd (cc)
  as-grip h (grips cells) e = h cells
  as-grip h (pulls xs) e = absurd (cc)
  as-grip h keeps e = absurd (cc)
  as-grip h drops e = absurd (cc)

  pub as-pull : ((xs : List V) → P (pulls xs)) → (s : Said V) → verb_of s ≡ v.Pull → P s
  as-pull h (binds cs q) e = absurd (cc)
  as-pull h (unbinds n) e = absurd (cc)
  as-pull h (grips cells) e = absurd (cc)
  as-pull h (pulls xs) e = h xs
  as-pull h keeps e = absurd (cc)
  as-pull h drops e = absurd (cc)

  pub as-keep : P keeps → (s : Said V) → verb_of s ≡ v.Keep → P s
  as-keep h (binds cs q) e = absurd (cc)
  as-keep h (unbinds n) e = absurd (cc)
  as-keep h (grips cells) e = absurd (cc)
  as-keep h (pulls xs) e = absurd (cc)
  as-keep h keeps e = h
  as-keep h drops e = absurd (cc)

  pub as-drop : P drops → (s : Said V) → verb_of s ≡ v.Drop → P s
  as-drop h (binds cs q) e = absurd (cc)
  as-drop h (unbinds n) e = absurd (cc)
  as-drop h (grips cells) e = absurd (cc)
  as-drop h (pulls xs) e = absurd (cc)
  as-drop h keeps e = absurd (cc)
  as-drop h drops e = h

module _ {V : Type 0} (form : List ℕ → V → Type 0) (count : ℕ) where
  -- nothing that the verb asks for can be said by these words
  abbrev pub Unsayable : Verb → List (List ℕ) → Type 0
  Unsayable verb ws = (s : Said V) → verb_of s ≡ verb → Values form count ws s → ⊥

  values_long : (ws : List (List ℕ)) (s : Said V) → Values form count ws s → length ws ≡ words_behind count (verb_of s)
  values_long ws (binds cs q) x = omega (arith, ap length x.2, length_push x.0 x.1, each-length Number x.0 cs x.4, x.3)
  values_long ws (unbinds n) x = ap length x.1
  values_long ws (grips cells) x = each-length CellForm ws cells x.1 ∙ x.0
  values_long ws (pulls xs) x = each-length form ws xs x.1 ∙ x.0
  values_long ws keeps x = ap length x
  values_long ws drops x = ap length x

  -- what the verb asks for is said by words from the front, and the rest are left
  pub record Begun (verb : Verb) (before after : List (List ℕ)) (s : Said V) : Type 0 where
    pub asks : verb_of s ≡ verb
    pub front : List (List ℕ)
    pub whole : before ≡ front ++ after
    pub values : Values form count front s

  -- with words left, they say nothing of the kind
  pub more_left : (verb : Verb) (before after : List (List ℕ)) (s : Said V) → Begun verb before after s → (after ≡ [] → ⊥) → Unsayable verb before
  more_left verb before after s h n t e x =
      n (nil_from_length after (omega (arith, values_long h.front s h.values, values_long before t x, ap (words_behind count) (e ∙ sym h.asks), ap length h.whole, length-append h.front after)))

  pub begun_at : (u verb : Verb) (before rest after : List (List ℕ)) (t s : Said V) → Begun u before rest t → verb ≡ u → after ≡ rest → s ≡ t → Begun verb before after s
  begun_at u verb before rest after t s h p q r = subst (λ x. Begun verb before after x) (sym r) (subst (λ x. Begun verb before x t) (sym q) (subst (λ x. Begun x before rest t) (sym p) h))

  module _ (before : List (List ℕ)) where
    pub begun-bind : (middle after : List (List ℕ)) (cs : List ℤ) (u : V) → Row Number count before middle cs → OneRead form middle after (Some u) → Begun v.Bind before after (binds cs u)
    begun-bind middle after cs u m o = record {
      asks = refl;
      front = m.0 ++ o.0 ∷ [];
      whole = m.1 ∙ ap (λ l. m.0 ++ l) o.1 ∙ sym (append_assoc m.0 (o.0 ∷ []) after);
      values = (m.0, o.0, refl, m.2, m.3, o.2);
    }

    pub begun-unbind : (after : List (List ℕ)) (n : ℤ) → OneRead Number before after (Some n) → Begun v.Unbind before after (unbinds n)
    begun-unbind after n o = record { asks = refl; front = o.0 ∷ []; whole = o.1; values = (o.0, refl, o.2) }

    pub begun-grip : (after : List (List ℕ)) (cells : List Cell) → Row CellForm count before after cells → Begun v.Grip before after (grips cells)
    begun-grip after cells m = record { asks = refl; front = m.0; whole = m.1; values = (m.2, m.3) }

    pub begun-pull : (after : List (List ℕ)) (xs : List V) → Row form count before after xs → Begun v.Pull before after (pulls xs)
    begun-pull after xs m = record { asks = refl; front = m.0; whole = m.1; values = (m.2, m.3) }

    pub begun-keep : Begun v.Keep before before keeps
    begun-keep = record { asks = refl; front = []; whole = refl; values = refl }

    pub begun-drop : Begun v.Drop before before drops
    begun-drop = record { asks = refl; front = []; whole = refl; values = refl }

  module _ (ws : List (List ℕ)) where
    abbrev no_values : Said V → Type 0
    no_values s = Values form count ws s → ⊥

    pub bind-none : ((rest : List (List ℕ)) (xs : List ℤ) → Row Number count ws rest xs → ⊥) → Unsayable v.Bind ws
    bind-none h = as-bind no_values (λ cs q x. h (x.1 ∷ []) cs (x.0, x.2, x.3, x.4))

    pub bind_no_value : (middle after : List (List ℕ)) (cs : List ℤ) → Row Number count ws middle cs → OneRead form middle after None → Unsayable v.Bind ws
    bind_no_value middle after cs m o = as-bind no_values (λ ds q x.
        let a = each-length Number m.0 cs m.3 in
        let b = each-length Number x.0 ds x.4 in
        o x.1 [] q (append-parts m.0 middle x.0 (x.1 ∷ []) (omega (arith, m.2, x.3)) (sym m.1 ∙ x.2)).1 x.5)

    pub grip-none : ((rest : List (List ℕ)) (xs : List Cell) → Row CellForm count ws rest xs → ⊥) → Unsayable v.Grip ws
    grip-none h = as-grip no_values (λ cells x. h [] cells (ws, sym (append-nil ws), x.0, x.1))

    pub pull-none : ((rest : List (List ℕ)) (xs : List V) → Row form count ws rest xs → ⊥) → Unsayable v.Pull ws
    pull-none h = as-pull no_values (λ xs x. h [] xs (ws, sym (append-nil ws), x.0, x.1))
