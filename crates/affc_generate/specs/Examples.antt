-- Small pipelines, written out.
use Rattle.std.specs.Prelude.{◌≡◌, codes}
use Rattle.affc_generate.specs.Stages.{source, schedule, whole}

abbrev pub OneStage : Type 0
OneStage = source 1 ≡ codes "#include <stdint.h>\n#pragma affc param M 1 1000\nvoid big(int64_t M, const uint64_t in[M + 2], uint64_t out[M]) {\n  uint64_t a0[M + 2];\n  for (int64_t i = 0; i < M + 2; i++) {\n    a0[i] = in[i];\n  }\n  for (int64_t i = 0; i < M; i++) {\n    out[i] = a0[i] + a0[i + 1] + a0[i + 2];\n  }\n}\n"

abbrev pub TwoStages : Type 0
TwoStages = source 2 ≡ codes "#include <stdint.h>\n#pragma affc param M 1 1000\nvoid big(int64_t M, const uint64_t in[M + 4], uint64_t out[M]) {\n  uint64_t a0[M + 4];\n  uint64_t a1[M + 2];\n  for (int64_t i = 0; i < M + 4; i++) {\n    a0[i] = in[i];\n  }\n  for (int64_t i = 0; i < M + 2; i++) {\n    a1[i] = a0[i] + a0[i + 1] + a0[i + 2];\n  }\n  for (int64_t i = 0; i < M; i++) {\n    out[i] = a1[i] + a1[i + 1] + a1[i + 2];\n  }\n}\n"

abbrev pub ThreeStages : Type 0
ThreeStages = source 3 ≡ codes "#include <stdint.h>\n#pragma affc param M 1 1000\nvoid big(int64_t M, const uint64_t in[M + 6], uint64_t out[M]) {\n  uint64_t a0[M + 6];\n  uint64_t a1[M + 4];\n  uint64_t a2[M + 2];\n  for (int64_t i = 0; i < M + 6; i++) {\n    a0[i] = in[i];\n  }\n  for (int64_t i = 0; i < M + 4; i++) {\n    a1[i] = a0[i] + a0[i + 1] + a0[i + 2];\n  }\n  for (int64_t i = 0; i < M + 2; i++) {\n    a2[i] = a1[i] + a1[i + 1] + a1[i + 2];\n  }\n  for (int64_t i = 0; i < M; i++) {\n    out[i] = a2[i] + a2[i + 1] + a2[i + 2];\n  }\n}\n"

abbrev pub TwoTimes : Type 0
TwoTimes = schedule 2 ≡ codes "time 1;\nS0: (i); i = t0;\nS1: (i + 2); i = t0 - 2;\nS2: (i + 4); i = t0 - 4;\n"

abbrev pub ThreeTimes : Type 0
ThreeTimes = schedule 3 ≡ codes "time 1;\nS0: (i); i = t0;\nS1: (i + 2); i = t0 - 2;\nS2: (i + 4); i = t0 - 4;\nS3: (i + 6); i = t0 - 6;\n"

-- 1002; 1016 + 1014 + .. + 1002; 1124 + 1122 + .. + 1002
abbrev pub Wholes : Type 0
Wholes = (whole 1 ≡ 1002) × (whole 8 ≡ 8072) × (whole 62 ≡ 65906)
