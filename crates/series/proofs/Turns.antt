-- What holds after each turn of a series.
use Rattle.std.proofs.Common.{◌≡◌, ℕ, ◌+◌, ◌<◌, ◌≤◌, List, [], ◌∷◌, ◌++◌, map, length, get_or, take, ℤ, Ok, vec_items, vec_len, vec_capacity, Vec, sym, ap, ◌∙◌, subst, arith}
use Rattle.std.specs.declared.alloc.Global.{Global}
use Rattle.std.proofs.lemmas.List.{map-append, take_more, take_all}
use Rattle.records.specs.declared.role.Role.{Role}
use Rattle.rules.specs.Limits.{most_relations, most_counted, working_places}
use Rattle.rules.specs.Sheets.{Sheet}
use Rattle.rules.specs.Values.{Coords}
use Rattle.rules.specs.Pulling.{Placing}
use Rattle.rules.specs.Calls.{opening}
use Rattle.rules.specs.Runs as runs
use Rattle.rules.proofs.Accepted.{on_opened}
use Rattle.rules.proofs.Bonds.{zeros-length}
use Rattle.law.specs.Plenty.{LongLists}
use Rattle.law.specs.Run.{Run}
use Rattle.law.proofs.Ran.{Running, running_none, running_more, ran, values_in}
use Rattle.calls.specs.declared.call.Call.{Call}
use Rattle.calls.specs.Shown.{Answer, call_of, reply_of}
use Rattle.steps.specs.Lists.{by_parameter, by_relation, by_working, no_relations}
use Rattle.desk.specs.declared.desk.Desk.{Desk}
use Rattle.desk.specs.Desks.{fresh, use_of}

-- ---- a desk's lists are long enough
long : (size n : ℕ) (s : Sheet) → (opening size n (by_parameter size)).0 ≡ Ok s → LongLists n (fresh size n s)
unfolding no_relations by_relation by_working
long size n s e = record {
  relations = omega arith;
  constants = let l = zeros-length most_relations size in omega arith;
  proposal = on_opened size n (by_parameter size) s e (λ t vs. n ≤ length (by_parameter size)) (λ few room. room);
  working = let l = zeros-length working_places size in omega arith;
  spare_list = omega arith;
}

-- ---- turns
-- the first i calls were made, and there is room for the answers to all
pub record Turn {K : Type 0} (size : ℕ) (f : K → Coords) (n : ℕ) (calls : List (Call K Role)) (i : ℕ) (answers : Vec (Answer K) Global) (desk : Desk K) : Type 0 where
  pub sheet : Sheet
  pub opened : (opening size n (by_parameter size)).0 ≡ Ok sheet
  pub running : Running size (fresh size n sheet) (map (call_of f) (take i calls)) (map (reply_of f) (vec_items answers)) (use_of f desk)
  pub many : vec_len answers ≡ i
  pub room : length calls ≤ vec_capacity answers

module _ {K : Type 0} (size : ℕ) (f : K → Coords) (n : ℕ) (calls : List (Call K Role)) where
  pub first_turn : (answers : Vec (Answer K) Global) (desk : Desk K) (sheet : Sheet) → (opening size n (by_parameter size)).0 ≡ Ok sheet → use_of f desk ≡ fresh size n sheet
      → vec_items answers ≡ [] → vec_len answers ≡ 0 → length calls ≤ vec_capacity answers → Turn size f n calls 0 answers desk
  first_turn answers desk sheet e is none many room = record {
    sheet = sheet;
    opened = e;
    running = subst (λ (u : runs.Use). Running size (fresh size n sheet) [] (map (reply_of f) (vec_items answers)) u) (sym is)
        (subst (λ (xs : List (Answer K)). Running size (fresh size n sheet) [] (map (reply_of f) xs) (fresh size n sheet)) (sym none) (running_none size (fresh size n sheet)));
    many = many;
    room = room;
  }

  pub next_turn : (i : ℕ) (answers after : Vec (Answer K) Global) (desk next : Desk K) (call : Call K Role) (answer : Answer K) → i < length calls → call ≡ get_or calls i call
      → use_of f next ≡ (runs.step size (use_of f desk) (call_of f call)).then → runs.Answers (runs.step size (use_of f desk) (call_of f call)).reply (reply_of f answer)
      → vec_items after ≡ vec_items answers ++ (answer ∷ []) → vec_len after ≡ vec_len answers + 1 → vec_capacity after ≡ vec_capacity answers → Turn size f n calls i answers desk → Turn size f n calls (i + 1) after next
  next_turn i answers after desk next call answer l at is reply items many cap T = record {
    sheet = T.sheet;
    opened = T.opened;
    running =
        let R = running_more size (fresh size n T.sheet) (map (call_of f) (take i calls)) (map (reply_of f) (vec_items answers)) (use_of f desk) (use_of f next) (call_of f call) (reply_of f answer) T.running is reply in
        let made : map (call_of f) (take i calls) ++ (call_of f call ∷ []) ≡ map (call_of f) (take (i + 1) calls) =
        sym (map-append (call_of f) (take i calls) (call ∷ [])) ∙ ap (map (call_of f)) (ap (λ (k : Call K Role). take i calls ++ (k ∷ [])) at ∙ sym (take_more calls i call l)) in
        let told : map (reply_of f) (vec_items answers) ++ (reply_of f answer ∷ []) ≡ map (reply_of f) (vec_items after) =
        sym (map-append (reply_of f) (vec_items answers) (answer ∷ [])) ∙ ap (map (reply_of f)) (sym items) in
        subst (λ (rs : List runs.Reply). Running size (fresh size n T.sheet) (map (call_of f) (take (i + 1) calls)) rs (use_of f next)) told
        (subst (λ (ks : List runs.Call). Running size (fresh size n T.sheet) ks (map (reply_of f) (vec_items answers) ++ (reply_of f answer ∷ [])) (use_of f next)) made R);
    many = let m = T.many in omega arith;
    room = let r = T.room in omega arith;
  }

  -- all were made
  pub last_turn : (i : ℕ) (answers : Vec (Answer K) Global) (desk : Desk K) (d : ℤ) (values : List Coords) → length calls ≤ i → Turn size f n calls i answers desk
      → values ≡ take (use_of f desk).sheet.count (use_of f desk).values → d ≡ (use_of f desk).sheet.d
      → (sheet : Sheet) × ((opening size n (by_parameter size)).0 ≡ Ok sheet) × Run size n (fresh size n sheet) (map (call_of f) calls) (map (reply_of f) (vec_items answers)) (record { over = d; nums = values })
  last_turn i answers desk d values l T values_are d-is =
      let R = subst (λ (ks : List (Call K Role)). Running size (fresh size n T.sheet) (map (call_of f) ks) (map (reply_of f) (vec_items answers)) (use_of f desk)) (take_all i calls l) T.running in
      let e = ran size n (by_parameter size) T.sheet T.opened no_relations (by_relation size) (by_parameter size) (by_working size) most_counted (long size n T.sheet T.opened)
      (map (call_of f) calls) (map (reply_of f) (vec_items answers)) (use_of f desk) R in
      let end : values_in n (use_of f desk) ≡ record { over = d; nums = values } = λ j. record { over = sym d-is j; nums = (ap (λ (k : ℕ). take k (use_of f desk).values) (sym e.0) ∙ sym values_are) j } in
      (T.sheet, T.opened, subst (λ (p : Placing). Run size n (fresh size n T.sheet) (map (call_of f) calls) (map (reply_of f) (vec_items answers)) p) end e.1)
