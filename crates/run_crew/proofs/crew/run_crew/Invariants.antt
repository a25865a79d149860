use Rattle.run_crew.proofs.crew.run_crew.Given as goal

abbrev pub ghosts-run_opened-W-Workers : goal.ghosts-run_opened-W-Workers
ghosts-run_opened-W-Workers g a = record { workers = a.workers; low = a.task.now.range.low; high = a.task.now.range.high }

abbrev pub ghosts-run_opened-A-Ledger : goal.ghosts-run_opened-A-Ledger
ghosts-run_opened-A-Ledger g a = record { name = a.blanks.source.name; parts = a.blanks.source.parts }

abbrev pub ghosts-run_opened-B-Ledger : goal.ghosts-run_opened-B-Ledger
ghosts-run_opened-B-Ledger g a = record { name = a.blanks.disk.name; parts = a.blanks.disk.parts }

abbrev pub ghosts-run_opened-C-Ledger : goal.ghosts-run_opened-C-Ledger
ghosts-run_opened-C-Ledger g a = record { name = a.blanks.memory.name; parts = a.blanks.memory.parts }

abbrev pub ghosts-run_opened-E-Ledger : goal.ghosts-run_opened-E-Ledger
ghosts-run_opened-E-Ledger g a = record { name = a.blanks.changed.name; parts = a.blanks.changed.parts }

abbrev pub ghosts-run_opened-F-Ledger : goal.ghosts-run_opened-F-Ledger
ghosts-run_opened-F-Ledger g a = record { name = a.blanks.misses.name; parts = a.blanks.misses.parts }

abbrev pub ghosts-run_opened-G-Ledger : goal.ghosts-run_opened-G-Ledger
ghosts-run_opened-G-Ledger g a = record { name = a.blanks.claims.name; parts = a.blanks.claims.parts }
