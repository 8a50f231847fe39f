-- Runs, one call after the other.
use Rattle.std.proofs.Common.{◌≡◌, ℕ, List, [], ◌∷◌, ◌++◌, map, take, Ok, sym, refl, ap, ◌∙◌, subst}
use Rattle.std.proofs.lemmas.List.{map-append}
use Rattle.records.specs.declared.relation.Relation.{Relation}
use Rattle.rules.specs.Values.{Coords}
use Rattle.rules.specs.Sheets.{Sheet}
use Rattle.rules.specs.Pulling.{Placing}
use Rattle.rules.specs.Calls.{opening}
use Rattle.rules.specs.Runs.{Use, Call, Reply, step, Answers, opened}
use Rattle.law.specs.Histories.{Entry, at_opening}
use Rattle.law.specs.Law.{Permitted, Made}
use Rattle.law.specs.Plenty.{LongLists}
use Rattle.law.specs.Run.{use_after, RanFromOpening, shown_from, Run}
use Rattle.law.proofs.Runs.{stands_opened, after_run, law}
use Rattle.law.proofs.Plenty.{fits_always}

-- ---- one entry more
pub use_after_more : (size : ℕ) (u : Use) (h : List Entry) (e : Entry) → use_after size u (h ++ (e ∷ [])) ≡ (step size (use_after size u h) e.call).then
use_after_more size u [] e = refl
use_after_more size u (x ∷ h) e = use_after_more size (step size u x.call).then h e

pub made_more : (size : ℕ) (u : Use) (h : List Entry) (e : Entry) → Made size u h → Permitted size (use_after size u h) e → Made size u (h ++ (e ∷ []))
made_more size u [] e m p = (p, tt)
made_more size u (x ∷ h) e m p = (m.0, made_more size (step size u x.call).then h e m.1 p)

-- ---- the calls so far made this history, and this is what they share now
pub record SoFar (size : ℕ) (u : Use) (calls : List Call) (h : List Entry) (now : Use) : Type 0 where
  pub calls_are : map (λ e. e.call) h ≡ calls
  pub made : Made size u h
  pub now_is : now ≡ use_after size u h

pub so_far_none : (size : ℕ) (u : Use) → SoFar size u [] [] u
so_far_none size u = record { calls_are = refl; made = tt; now_is = refl }

pub so_far_more : (size : ℕ) (u : Use) (calls : List Call) (h : List Entry) (now next : Use) (e : Entry) → SoFar size u calls h now
    → Permitted size now e → next ≡ (step size now e.call).then → SoFar size u (calls ++ (e.call ∷ [])) (h ++ (e ∷ [])) next
so_far_more size u calls h now next e S p is = record {
  calls_are = map-append (λ e. e.call) h (e ∷ []) ∙ ap (λ (ks : List Call). ks ++ (e.call ∷ [])) S.calls_are;
  made = made_more size u h e S.made (subst (λ (v : Use). Permitted size v e) S.now_is p);
  now_is = is ∙ ap (λ (v : Use). (step size v e.call).then) S.now_is ∙ sym (use_after_more size u h e);
}

-- the same with what came back, for some history
pub record Running (size : ℕ) (u : Use) (calls : List Call) (replies : List Reply) (now : Use) : Type 0 where
  pub history : List Entry
  pub replies_are : map (λ e. e.reply) history ≡ replies
  pub so_far : SoFar size u calls history now

pub running_none : (size : ℕ) (u : Use) → Running size u [] [] u
running_none size u = record { history = []; replies_are = refl; so_far = so_far_none size u }

pub running_more : (size : ℕ) (u : Use) (calls : List Call) (replies : List Reply) (now next : Use) (k : Call) (r : Reply) → Running size u calls replies now
    → next ≡ (step size now k).then → Answers (step size now k).reply r → Running size u (calls ++ (k ∷ [])) (replies ++ (r ∷ [])) next
running_more size u calls replies now next k r R is answers = record {
  history = R.history ++ (e ∷ []);
  replies_are = map-append (λ e. e.reply) R.history (e ∷ []) ∙ ap (λ (rs : List Reply). rs ++ (r ∷ [])) R.replies_are;
  so_far = so_far_more size u calls R.history now next e R.so_far (record { reply = answers; values = ap (λ (v : Use). v.values) is; d = ap (λ (v : Use). v.sheet.d) is }) is;
}
  where
    e : Entry
    e = record { call = k; reply = r; values = next.values; d = next.sheet.d }

-- ---- the sheet's values
abbrev pub values_in : ℕ → Use → Placing
values_in n u = record { over = u.sheet.d; nums = take n u.values }

shown-after : (size n : ℕ) (u : Use) (h : List Entry) → Made size u h → shown_from n (values_in n u) h ≡ values_in n (use_after size u h)
shown-after size n u [] m = refl
shown-after size n u (e ∷ h) m = ap (λ (p : Placing). shown_from n p h) (λ i. record { over = m.0.d i; nums = take n (m.0.values i) }) ∙ shown-after size n (step size u e.call).then h m.1

-- ---- from an opening to the end
-- every history that the calls make is a run of them
pub ran_from_opening : RanFromOpening
ran_from_opening size n values s e relations constants proposal working places calls h q m = record {
  calls_are = q;
  lawful = law size n values s e relations constants proposal working places h m;
  by_rules = m;
  fits = λ long. fits_always size n values s e relations constants proposal working places long h m;
}

module _ (size n : ℕ) (values : List Coords) (s : Sheet) (e : (opening size n values).0 ≡ Ok s) (relations : List Relation) (constants proposal working : List Coords) (places : ℕ) where
  abbrev u : Use
  u = opened s (opening size n values).1 relations constants proposal working places

  pub ran : LongLists n u → (calls : List Call) (replies : List Reply) (now : Use) → Running size u calls replies now
      → (now.sheet.count ≡ n) × Run size n u calls replies (values_in n now)
  ran long calls replies now R =
      let S = stands_opened size n values s e relations constants proposal working places in
      let h = R.history in
      let F = R.so_far in
      let T = (after_run size n values s e relations constants proposal working places h F.made).stands in
      let W = ran_from_opening size n values s e relations constants proposal working places calls h F.calls_are F.made in
      let start : (at_opening size n).kept ≡ values_in n u = λ i. record { over = sym S.over_is i; nums = sym S.values_are i } in (
        ap (λ (v : Use). v.sheet.count) F.now_is ∙ T.count_is,
        record {
          history = h;
          calls_are = W.calls_are;
          replies_are = R.replies_are;
          ends = ap (λ (p : Placing). shown_from n p h) start ∙ shown-after size n u h F.made ∙ ap (values_in n) (sym F.now_is);
          lawful = W.lawful;
          by_rules = W.by_rules;
          fits = W.fits long;
        },
      )
