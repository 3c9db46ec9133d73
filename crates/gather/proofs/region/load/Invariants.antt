use Rattle.std.proofs.Common.{◌≡◌, ◌*◌, map, take, drop}
use Rattle.std.specs.Iterator.Adapters.{enumerate_source, enumerate_count}
use Rattle.std.specs.Slice.Iter.{chunks_exact_rest, chunks_exact_size}
use Rattle.rows.proofs.Walking.{Walked}
use Rattle.gather.specs.Gathered.{answer_of, rows_apart}
use Rattle.gather.proofs.region.load.Given as goal

abbrev pub invariant-loop-i : goal.invariant-loop-i
invariant-loop-i l =
    Walked l.fn.batch.work.now l.fn.batch.rows (enumerate_count l.i-iterator) (chunks_exact_rest (enumerate_source l.i-iterator))
    × (chunks_exact_size (enumerate_source l.i-iterator) ≡ 9)
    × (map answer_of (take (enumerate_count l.i-iterator) l.entries) ≡ rows_apart 9 l.fn.batch.rows.width (enumerate_count l.i-iterator) (drop (9 * l.fn.batch.rows.first) l.fn.batch.work.now))
