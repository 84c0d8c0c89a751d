-- The laws of counting, together.
use Rattle.sets.specs.Counting.{CountingLaws}
use Rattle.sets.proofs.Bounds.{sum_by_test}
use Rattle.sets.proofs.Counts.{count_mono, place_beyond}
use Rattle.sets.proofs.Sums.{sum_mono, sum_swap}

pub counting_laws : CountingLaws
counting_laws = record {
  double_counting = sum_swap;
  monotone_sum = sum_mono;
  monotone_count = count_mono;
  by_test = sum_by_test;
  pigeonhole = place_beyond;
}
