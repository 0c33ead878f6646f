mod DrawLemmas
