use Rattle.wl_manager_tests.proofs.manager.threads.ends.a_take_and_an_end_race_a_thousand_times.Given as goal

-- the ledger that was just made
abbrev pub ghosts-ends : goal.ghosts-ends
ghosts-ends g a = record { name = a.blank.name; parts = a.blank.parts }
