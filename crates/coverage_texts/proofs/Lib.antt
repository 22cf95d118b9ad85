pub mod CoverageLemmas
