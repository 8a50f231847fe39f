-- Every series of calls makes a history, and a small one with an accepted pull, a keep and a call that is not open.
use Rattle.std.proofs.Common.{List, [], ◌∷◌, pos, Ok, Err, refl, ap}
use Rattle.std.proofs.lemmas.List.Sorted.{IsPermutation-refl}
use Rattle.whole.specs.Sums.{sum_below}
use Rattle.rules.specs.Limits.{most_relations, most_counted, working_places}
use Rattle.rules.specs.Values.{zeros}
use Rattle.rules.specs.Runs.{Call, nothing, spares, placing, Reply, step, Answers}
use Rattle.rules.specs.Worked.{unbound}
use Rattle.law.specs.Law.{Made}
use Rattle.law.specs.Plenty.{SeriesMade, small_use, small, SmallMade}
use Rattle.law.proofs.Runs.{law}

itself : (r : Reply) → Answers r r
itself (Ok nothing) = refl
itself (Ok (spares xs)) = (xs, refl, IsPermutation-refl xs)
itself (Ok (placing p)) = refl
itself (Err e) = refl

pub series_made : SeriesMade
series_made size u [] = (tt, refl)
series_made size u (k ∷ ks) =
    let x = step size u k in
    let h = series_made size x.then ks in
    ((record { reply = itself x.reply; values = refl; d = refl }, h.0), ap (λ (l : List Call). k ∷ l) h.1)

small-history : Made 1 small_use small
unfolding sum_below
small-history = (record { reply = refl; values = refl; d = refl }, (record { reply = ([], refl, IsPermutation-refl []); values = refl; d = refl }, (record { reply = refl; values = refl; d = refl }, (record { reply = refl; values = refl; d = refl }, (record { reply = refl; values = refl; d = refl }, tt)))))

pub small_made : SmallMade
small_made = (refl, small-history, law 1 3 (zeros 3 1) (record { count = 3; bound = 0; d = pos 1 }) refl unbound (zeros most_relations 1) (zeros 3 1) (zeros working_places 1) most_counted small small-history)
