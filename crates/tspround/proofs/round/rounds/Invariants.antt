use Rattle.tspround.proofs.round.rounds.Given as goal

abbrev pub ghosts-round_of-J-Opening : goal.ghosts-round_of-J-Opening
ghosts-round_of-J-Opening g a = record { book = a.boss }

abbrev pub ghosts-round_of-L-Ledger : goal.ghosts-round_of-L-Ledger
ghosts-round_of-L-Ledger g a = record { name = a.grants.name; parts = a.grants.parts }

abbrev pub ghosts-round_of-M-Ledger : goal.ghosts-round_of-M-Ledger
ghosts-round_of-M-Ledger g a = record { name = a.takes.name; parts = a.takes.parts }
