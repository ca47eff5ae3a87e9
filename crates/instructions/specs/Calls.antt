-- The system calls of the Seventh Edition. (section 2 of the Unix Programmer's Manual, Seventh Edition)
--
-- Read each line aloud: the number of the call in decimal, as the manual numbers them, the call, and how many words follow `sys`. The
-- other arguments are in registers. No call has another number.
use Rattle.std.specs.Prelude.{ℕ, List, [], ◌∷◌, map}
use Rattle.instructions.specs.{declared.call.SystemCall.SystemCall, declared.call_table.CallRow.CallRow}
use Rattle.instructions.specs.declared.call.SystemCall.TheVariants as calls

abbrev pub call_rows : List (ℕ × SystemCall × ℕ) → List CallRow
call_rows entries = map (λ e. record { call = e.1; number = e.0; words = e.2 }) entries

abbrev pub system_calls : List CallRow
system_calls = call_rows (
    (0, calls.Indir, 1) ∷
    (1, calls.Exit, 0) ∷
    (2, calls.Fork, 0) ∷
    (3, calls.Read, 2) ∷
    (4, calls.Write, 2) ∷
    (5, calls.Open, 2) ∷
    (6, calls.Close, 0) ∷
    (7, calls.Wait, 0) ∷
    (8, calls.Creat, 2) ∷
    (9, calls.Link, 2) ∷
    (10, calls.Unlink, 1) ∷
    (11, calls.Exec, 2) ∷
    (12, calls.Chdir, 1) ∷
    (13, calls.Time, 0) ∷
    (14, calls.Mknod, 3) ∷
    (15, calls.Chmod, 2) ∷
    (16, calls.Chown, 3) ∷
    (17, calls.Break, 1) ∷
    (18, calls.Stat, 2) ∷
    (19, calls.Lseek, 3) ∷
    (20, calls.Getpid, 0) ∷
    (21, calls.Mount, 3) ∷
    (22, calls.Umount, 1) ∷
    (23, calls.Setuid, 0) ∷
    (24, calls.Getuid, 0) ∷
    (25, calls.Stime, 0) ∷
    (26, calls.Ptrace, 3) ∷
    (27, calls.Alarm, 0) ∷
    (28, calls.Fstat, 1) ∷
    (29, calls.Pause, 0) ∷
    (30, calls.Utime, 2) ∷
    (31, calls.Stty, 1) ∷
    (32, calls.Gtty, 1) ∷
    (33, calls.Access, 2) ∷
    (34, calls.Nice, 0) ∷
    (35, calls.Ftime, 1) ∷
    (36, calls.Sync, 0) ∷
    (37, calls.Kill, 1) ∷
    (41, calls.Dup, 0) ∷
    (42, calls.Pipe, 0) ∷
    (43, calls.Times, 1) ∷
    (44, calls.Profil, 4) ∷
    (46, calls.Setgid, 0) ∷
    (47, calls.Getgid, 0) ∷
    (48, calls.Signal, 2) ∷
    (51, calls.Acct, 1) ∷
    (52, calls.Phys, 3) ∷
    (53, calls.Lock, 1) ∷
    (54, calls.Ioctl, 3) ∷
    (56, calls.Mpx, 4) ∷
    (59, calls.Exece, 3) ∷
    (60, calls.Umask, 1) ∷
    (61, calls.Chroot, 1) ∷
    [])
