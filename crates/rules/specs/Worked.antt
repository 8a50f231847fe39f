-- Worked sheets: series of calls with the replies they get, and lists before and after single calls.
use Rattle.std.specs.Prelude.{◌≡◌, ℕ, List, [], ◌∷◌, ◌++◌, map, replicate, ℤ, pos, neg_ℤ, Ok, Err, Result, slice_index_or}
use Rattle.records.specs.Outcomes.{onward}
use Rattle.records.specs.declared.refusal.Refusal.{Refusal}
use Rattle.records.specs.declared.refusal.Refusal.TheVariants.{Unfit, Count, Impossible, TooFine, OffSheet, TableTooLarge}
use Rattle.records.specs.declared.relation.Mark.{Mark}
use Rattle.records.specs.declared.relation.Mark.TheVariants.{Idle, Needed, Spare}
use Rattle.records.specs.declared.relation.Relation.{Relation}
use Rattle.records.specs.declared.role.Role.{Role}
use Rattle.records.specs.declared.role.Role.TheVariants.{Pulled, Loose}
use Rattle.rules.specs.Limits.{most_relations, working_places, most_counted}
use Rattle.rules.specs.Values.{Coords, zeros}
use Rattle.rules.specs.Sheets.{Sheet, Bond, Workings}
use Rattle.rules.specs.Gripping.{table}
use Rattle.rules.specs.Calls.{opening, recorded, binding, unbinding, grip_answer, marks_after, spare_numbers, pulling, keeping}
use Rattle.rules.specs.Runs.{Call, bind, unbind, grip, pull, keep, drop_grip, nothing, spares, placing, Reply, opened, replies}

abbrev pub neg : ℕ → ℤ
neg n = neg_ℤ (pos n)

-- Lengths have one coordinate each.
abbrev pub lengths : List ℤ → List Coords
lengths xs = map (λ x. x ∷ []) xs

abbrev pub weight : ℕ → Role
weight w = Loose (pos w)

-- ---- series of calls
-- The relations' list of a caller before anything is bound.
abbrev pub unbound : List Relation
unbound = replicate most_relations (recorded 0 [])

-- The replies to calls on a sheet of n parameters, with lists just long enough; a refused opening gives only its refusal.
abbrev pub after_opening : ℕ → ℕ → List Call → Result Sheet Refusal × List Coords → List Reply
after_opening size n ks o = by o.0
  where
    by : Result Sheet Refusal → List Reply
    by (Ok s) = replies size (opened s o.1 unbound (zeros most_relations size) (zeros n size) (zeros working_places size) most_counted) ks
    by (Err e) = Err e ∷ []

abbrev pub run : ℕ → ℕ → List Call → List Reply
run size n ks = after_opening size n ks (opening size n (zeros n size))

abbrev pub done : Reply
done = Ok nothing

abbrev pub at_lengths : ℕ → List ℤ → Reply
at_lengths e xs = Ok (placing (record { over = pos e; nums = lengths xs }))

abbrev pub holding : List ℕ → Reply
holding xs = Ok (spares xs)

-- A call with its reply.
abbrev pub Line : Type 0
Line = Call × Reply

pub record Case : Type 0 where
  pub size : ℕ
  pub count : ℕ
  pub lines : List Line

abbrev pub calls : List Line → List Call
calls [] = []
calls (l ∷ ls) = l.0 ∷ calls ls

abbrev pub answers : List Line → List Reply
answers [] = []
answers (l ∷ ls) = l.1 ∷ answers ls

abbrev pub cases : List Case
cases =
    -- a - 2b + c = 0, a pulled to 100, b and c loose at 1
    record {
      size = 1;
      count = 3;
      lines =
          (bind (pos 1 ∷ neg 2 ∷ pos 1 ∷ []) (pos 0 ∷ []), done)
          ∷ (grip (Pulled ∷ weight 1 ∷ weight 1 ∷ []), holding [])
          ∷ (pull (lengths (pos 100 ∷ pos 0 ∷ pos 0 ∷ [])), at_lengths 1 (pos 100 ∷ pos 40 ∷ neg 20 ∷ []))
          ∷ (drop_grip, done)
          ∷ [];
    }
    -- the same with a at 1; kept, gripped again, a at 2
    ∷ record {
      size = 1;
      count = 3;
      lines =
          (bind (pos 1 ∷ neg 2 ∷ pos 1 ∷ []) (pos 0 ∷ []), done)
          ∷ (grip (Pulled ∷ weight 1 ∷ weight 1 ∷ []), holding [])
          ∷ (pull (lengths (pos 1 ∷ pos 0 ∷ pos 0 ∷ [])), at_lengths 5 (pos 5 ∷ pos 2 ∷ neg 1 ∷ []))
          ∷ (keep, done)
          ∷ (grip (Pulled ∷ weight 1 ∷ weight 1 ∷ []), holding [])
          ∷ (pull (lengths (pos 2 ∷ pos 0 ∷ pos 0 ∷ [])), at_lengths 5 (pos 10 ∷ pos 4 ∷ neg 2 ∷ []))
          ∷ [];
    }
    -- the first with weights 12 for b, 1 for c
    ∷ record {
      size = 1;
      count = 3;
      lines =
          (bind (pos 1 ∷ neg 2 ∷ pos 1 ∷ []) (pos 0 ∷ []), done)
          ∷ (grip (Pulled ∷ weight 12 ∷ weight 1 ∷ []), holding [])
          ∷ (pull (lengths (pos 100 ∷ pos 0 ∷ pos 0 ∷ [])), at_lengths 2 (pos 200 ∷ pos 25 ∷ neg 150 ∷ []))
          ∷ [];
    }
    -- points, a at (100, 1), weights 1
    ∷ record {
      size = 2;
      count = 3;
      lines =
          (bind (pos 1 ∷ neg 2 ∷ pos 1 ∷ []) (pos 0 ∷ pos 0 ∷ []), done)
          ∷ (grip (Pulled ∷ weight 1 ∷ weight 1 ∷ []), holding [])
          ∷ (
            pull ((pos 100 ∷ pos 1 ∷ []) ∷ (pos 0 ∷ pos 0 ∷ []) ∷ (pos 0 ∷ pos 0 ∷ []) ∷ []),
            Ok (placing (record { over = pos 5; nums = (pos 500 ∷ pos 5 ∷ []) ∷ (pos 200 ∷ pos 2 ∷ []) ∷ (neg 100 ∷ neg 1 ∷ []) ∷ [] })),
          )
          ∷ [];
    }
    -- a - b = 0, b - c = 0, a - c = 0, all loose at 12, e pulled: relation 2 is spare
    ∷ record {
      size = 1;
      count = 4;
      lines =
          (bind (pos 1 ∷ neg 1 ∷ pos 0 ∷ pos 0 ∷ []) (pos 0 ∷ []), done)
          ∷ (bind (pos 0 ∷ pos 1 ∷ neg 1 ∷ pos 0 ∷ []) (pos 0 ∷ []), done)
          ∷ (bind (pos 1 ∷ pos 0 ∷ neg 1 ∷ pos 0 ∷ []) (pos 0 ∷ []), done)
          ∷ (grip (weight 12 ∷ weight 12 ∷ weight 12 ∷ Pulled ∷ []), holding (2 ∷ []))
          ∷ [];
    }
    -- a + b = 10 on values 4 and 6, both pulled
    ∷ record {
      size = 1;
      count = 2;
      lines =
          (grip (Pulled ∷ Pulled ∷ []), holding [])
          ∷ (pull (lengths (pos 4 ∷ pos 6 ∷ [])), at_lengths 1 (pos 4 ∷ pos 6 ∷ []))
          ∷ (keep, done)
          ∷ (bind (pos 1 ∷ pos 1 ∷ []) (pos 10 ∷ []), done)
          ∷ (grip (Pulled ∷ Pulled ∷ []), holding (0 ∷ []))
          ∷ (pull (lengths (pos 3 ∷ pos 7 ∷ [])), at_lengths 1 (pos 3 ∷ pos 7 ∷ []))
          ∷ (pull (lengths (pos 4 ∷ pos 7 ∷ [])), Err Impossible)
          ∷ [];
    }
    -- 2a - b = 0, b loose
    ∷ record {
      size = 1;
      count = 2;
      lines =
          (bind (pos 2 ∷ neg 1 ∷ []) (pos 0 ∷ []), done)
          ∷ (grip (Pulled ∷ weight 1 ∷ []), holding [])
          ∷ (pull (lengths (pos 23780 ∷ pos 0 ∷ [])), at_lengths 1 (pos 23780 ∷ pos 47560 ∷ []))
          ∷ (pull (lengths (pos 23781 ∷ pos 0 ∷ [])), Err OffSheet)
          ∷ [];
    }
    -- 211a + 21b - z = 0, a and b loose at 12, z pulled to 1; then with 212 and 9
    ∷ record {
      size = 1;
      count = 3;
      lines =
          (bind (pos 211 ∷ pos 21 ∷ neg 1 ∷ []) (pos 0 ∷ []), done)
          ∷ (grip (weight 12 ∷ weight 12 ∷ Pulled ∷ []), holding [])
          ∷ (pull (lengths (pos 0 ∷ pos 0 ∷ pos 1 ∷ [])), at_lengths 44962 (pos 211 ∷ pos 21 ∷ pos 44962 ∷ []))
          ∷ (drop_grip, done)
          ∷ (unbind (pos 0), done)
          ∷ (bind (pos 212 ∷ pos 9 ∷ neg 1 ∷ []) (pos 0 ∷ []), done)
          ∷ (grip (weight 12 ∷ weight 12 ∷ Pulled ∷ []), holding [])
          ∷ (pull (lengths (pos 0 ∷ pos 0 ∷ pos 1 ∷ [])), Err TooFine)
          ∷ [];
    }
    -- 1000a + 999b = 0 and 999a - 998b = 0, both loose at 12, e pulled
    ∷ record {
      size = 1;
      count = 3;
      lines =
          (bind (pos 1000 ∷ pos 999 ∷ pos 0 ∷ []) (pos 0 ∷ []), done)
          ∷ (bind (pos 999 ∷ neg 998 ∷ pos 0 ∷ []) (pos 0 ∷ []), done)
          ∷ (grip (weight 12 ∷ weight 12 ∷ Pulled ∷ []), Err TableTooLarge)
          ∷ [];
    }
    ∷ []

abbrev pub of_lengths : List ℤ → Bond
of_lengths cs = record { coefs = cs; constant = pos 0 ∷ [] }

-- Row 2 of the fifth sheet's table.
abbrev pub third_row : Result (List ℤ) Refusal
third_row = onward (table 4 (weight 12 ∷ weight 12 ∷ weight 12 ∷ Pulled ∷ [])
    (of_lengths (pos 1 ∷ neg 1 ∷ pos 0 ∷ pos 0 ∷ []) ∷ of_lengths (pos 0 ∷ pos 1 ∷ neg 1 ∷ pos 0 ∷ []) ∷ of_lengths (pos 1 ∷ pos 0 ∷ neg 1 ∷ pos 0 ∷ []) ∷ []))
    (λ t. Ok (slice_index_or t 2 []))

abbrev pub WorkedSheets : Type 0
WorkedSheets = (map (λ k. run k.size k.count (calls k.lines)) cases ≡ map (λ k. answers k.lines) cases)
    × (third_row ≡ Ok (pos 0 ∷ pos 0 ∷ pos 0 ∷ neg 1 ∷ neg 1 ∷ pos 1 ∷ []))

-- ---- lists before and after
-- Two lengths a and b in a list of three places; 2a - b = 0 is bound in the first of 25 places, and once more in the second where two are bound.
abbrev pub sheet : ℕ → ℕ → Sheet
sheet bound d = record { count = 2; bound = bound; d = pos d }

abbrev pub double : Mark → Relation
double k = record { coefficients = pos 2 ∷ neg 1 ∷ replicate 46 (pos 0); mark = k }

abbrev pub relations : List Relation → List Relation
relations rs = rs ++ replicate 24 (recorded 1 (pos 7 ∷ []))

abbrev pub once : List Relation
once = relations (double Idle ∷ [])

abbrev pub twice : Mark → Mark → List Relation
twice k l = double k ∷ double l ∷ replicate 23 (recorded 1 (pos 7 ∷ []))

abbrev pub constants : List Coords
constants = lengths (pos 0 ∷ pos 0 ∷ replicate 23 (pos 8))

abbrev pub nine : List ℤ → List Coords
nine xs = lengths (xs ++ pos 9 ∷ [])

abbrev pub a_pulled : List Role
a_pulled = Pulled ∷ weight 1 ∷ []

abbrev pub workings : ℕ → ℕ → Workings
workings count m = record { count = count; m = m; table = (pos 12 ∷ pos 1 ∷ []) ∷ []; roles = a_pulled; shares = pos 0 ∷ pos 12 ∷ [] }

-- The working values have a twenty-fifth place.
abbrev pub fives : ℕ → List Coords
fives k = lengths (replicate k (pos 5))

abbrev pub blank : List Coords
blank = zeros working_places 1 ++ fives 1

abbrev pub pulled_on : ℕ → ℕ → Workings → ℕ → Result ℤ Refusal × List Coords × List Coords
pulled_on d a w places = pulling 1 (sheet 1 d) (nine (pos 0 ∷ pos 0 ∷ [])) once constants w (lengths (pos a ∷ pos 0 ∷ [])) (nine (pos 7 ∷ pos 8 ∷ [])) (fives places)

abbrev pub unwritten : ℕ → Result ℤ Refusal × List Coords × List Coords
unwritten places = (Err Unfit, nine (pos 7 ∷ pos 8 ∷ []), fives places)

-- What is written, and that the places beyond are not.
abbrev pub PlacesBeyond : Type 0
PlacesBeyond =
    (opening 1 2 (nine (pos 7 ∷ pos 8 ∷ [])) ≡ (Ok (sheet 0 1), nine (pos 0 ∷ pos 0 ∷ [])))
    × (binding 1 (sheet 1 1) (nine (pos 0 ∷ pos 0 ∷ [])) once constants (pos 2 ∷ neg 1 ∷ pos 3 ∷ []) (pos 0 ∷ []) ≡ (Ok tt, sheet 2 1, twice Idle Idle, constants))
    × (unbinding 1 (sheet 2 1) (nine (pos 0 ∷ pos 0 ∷ [])) (twice Needed Spare) constants (pos 0) ≡ (Ok tt, sheet 1 1, twice Spare Spare, constants))
    × (grip_answer 1 (sheet 1 1) (nine (pos 0 ∷ pos 0 ∷ [])) once constants a_pulled (replicate 12 0) ≡ Ok (workings 2 1))
    × (onward (grip_answer 1 (sheet 2 1) (nine (pos 0 ∷ pos 0 ∷ [])) (twice Idle Idle) constants a_pulled (replicate 12 0)) (λ w. Ok (marks_after (Ok w) (sheet 2 1) (twice Idle Idle) constants)) ≡ Ok (twice Needed Spare))
    × (onward (grip_answer 1 (sheet 2 1) (nine (pos 0 ∷ pos 0 ∷ [])) (twice Idle Idle) constants a_pulled (replicate 12 0)) (λ w. Ok (spare_numbers w (sheet 2 1) (twice Idle Idle) constants)) ≡ Ok (1 ∷ []))
    × (pulled_on 1 3 (workings 2 1) 25 ≡ (Ok (pos 1), nine (pos 3 ∷ pos 6 ∷ []), blank))
    × (pulled_on 1 23781 (workings 2 1) 25 ≡ (Err OffSheet, nine (pos 0 ∷ pos 0 ∷ []), blank))
    × (keeping 1 (sheet 1 1) (nine (pos 0 ∷ pos 0 ∷ [])) once constants (lengths (pos 3 ∷ pos 6 ∷ pos 4 ∷ [])) (pos 2) ≡ (Ok (sheet 1 2), nine (pos 3 ∷ pos 6 ∷ [])))

-- What is refused first, with nothing written.
abbrev pub RefusedFirst : Type 0
RefusedFirst =
    (opening 1 50 (zeros 47 1) ≡ (Err Unfit, zeros 47 1))
    × (opening 1 50 (zeros 48 1) ≡ (Err Count, zeros 48 1))
    × (opening 1 0 [] ≡ (Err Count, []))
    × (binding 1 (sheet 1 1) (nine (pos 0 ∷ pos 0 ∷ [])) once constants (pos 1 ∷ []) (pos 0 ∷ []) ≡ (Err Unfit, sheet 1 1, once, constants))
    × (binding 1 (sheet 1 45001) (nine (pos 0 ∷ pos 0 ∷ [])) once constants (pos 1 ∷ pos 1 ∷ []) (pos 0 ∷ []) ≡ (Err Unfit, sheet 1 45001, once, constants))
    × (unbinding 1 (sheet 1 1) (nine (pos 0 ∷ pos 47561 ∷ [])) once constants (pos 0) ≡ (Err Unfit, sheet 1 1, once, constants))
    × (unbinding 1 (sheet 1 1) (nine (pos 0 ∷ pos 0 ∷ [])) (replicate 23 (double Idle)) constants (pos 0) ≡ (Err Unfit, sheet 1 1, replicate 23 (double Idle), constants))
    × (unbinding 1 (sheet 1 1) (nine (pos 0 ∷ pos 0 ∷ [])) (replicate 24 (recorded 1 (pos 1001 ∷ []))) constants (pos 0) ≡ (Err Unfit, sheet 1 1, replicate 24 (recorded 1 (pos 1001 ∷ [])), constants))
    × (grip_answer 1 (sheet 1 1) (nine (pos 0 ∷ pos 0 ∷ [])) once constants a_pulled (replicate 11 0) ≡ Err Unfit)
    × (grip_answer 1 (sheet 1 1) (nine (pos 0 ∷ pos 0 ∷ [])) once constants (Pulled ∷ []) (replicate 12 0) ≡ Err Unfit)
    × (pulled_on 0 3 (workings 2 1) 25 ≡ unwritten 25)
    × (pulled_on 1 3 (workings 3 1) 25 ≡ unwritten 25)
    × (pulled_on 1 3 (workings 2 2) 25 ≡ unwritten 25)
    × (pulled_on 1 3 (workings 2 1) 23 ≡ unwritten 23)
    × (keeping 1 (sheet 1 1) (nine (pos 0 ∷ pos 0 ∷ [])) once constants (lengths (pos 3 ∷ pos 6 ∷ [])) (pos 45001) ≡ (Err Unfit, nine (pos 0 ∷ pos 0 ∷ [])))
    × (keeping 1 (sheet 1 1) (nine (pos 0 ∷ pos 0 ∷ [])) once constants (lengths (pos 47561 ∷ pos 6 ∷ [])) (pos 1) ≡ (Err Unfit, nine (pos 0 ∷ pos 0 ∷ [])))
    × (keeping 1 (sheet 1 1) (nine (pos 0 ∷ pos 0 ∷ [])) once constants (lengths (pos 3 ∷ [])) (pos 1) ≡ (Err Unfit, nine (pos 0 ∷ pos 0 ∷ [])))
