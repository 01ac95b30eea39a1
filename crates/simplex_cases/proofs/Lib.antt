mod DualLemmas
